-- Definitions over rows, read at an index.
use Rattle.std.proofs.Common.{◌≡◌, ℕ, ◌+◌, ◌<◌, List, Option, Some, None, length, get_or, drop, if◌then◌else◌, bytes_eq, refl, add-one, drop-cons}
use Rattle.c_types.specs.declared.infos.MemberInfo.{MemberInfo}
use Rattle.c_types.specs.Scopes.{or_else}
use Rattle.c_types.specs.Exprs.{member_from}

pub member_from_at : (n : ℕ) (ms : List MemberInfo) (f : List ℕ) (i : ℕ) (d : MemberInfo) → i < length ms
    → member_from n (drop i ms) f ≡ (if bytes_eq (get_or ms i d).name f then Some (n, (get_or ms i d).kind) else member_from (n + 1) (drop (i + 1) ms) f)
member_from_at n ms f i d h = rw (add-one i, drop-cons ms i d h) refl

pub or_else_assoc : (a b c : Option ℕ) → or_else (or_else a b) c ≡ or_else a (or_else b c)
or_else_assoc None b c = refl
or_else_assoc (Some a) b c = refl
