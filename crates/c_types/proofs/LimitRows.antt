-- The limits, read at an index.
use Rattle.std.proofs.Common.{◌≡◌, ℕ, ◌+◌, ◌<◌, ◌||◌, List, length, get_or, drop, map, Bool, true, false, suc, Some, option_map, find, nat_lt, if◌then◌else◌, refl, add-one, drop-cons}
use Rattle.c_types.specs.declared.infos.SlotInfo.{SlotInfo}
use Rattle.c_types.specs.declared.infos.StructInfo.{StructInfo}
use Rattle.c_types.specs.declared.infos.ProcInfo.{ProcInfo}
use Rattle.c_types.specs.declared.error.TypeError.TheVariants.{Limit}
use Rattle.c_types.specs.declared.error.LimitKind.TheVariants.{Fields, Params}
use Rattle.c_types.specs.Types.{is_pointer}
use Rattle.c_types.specs.Items.{limit_on, pointer_count, pointer_params, is_main}
use Rattle.std.specs.List.{list_any}
use Rattle.c_tree.specs.View.{proc_view}
use Rattle.c_tree.specs.declared.tree.ProcItem.{ProcItem}

pub fields_at : (ss : List StructInfo) (i : ℕ) (d : StructInfo) → i < length ss
    → limit_on Fields 64 (map (λ s. length s.members) (drop i ss))
    ≡ (if nat_lt 64 (length (get_or ss i d).members) then Some (Limit Fields (length (get_or ss i d).members)) else limit_on Fields 64 (map (λ s. length s.members) (drop (i + 1) ss)))
fields_at ss i d h = rw (add-one i, drop-cons ss i d h) (chosen (nat_lt 64 (length (get_or ss i d).members)))
  where
    chosen : (b : Bool) → option_map (λ n. Limit Fields n) (if b then Some (length (get_or ss i d).members) else find (λ n. nat_lt 64 n) (map (λ s. length s.members) (drop (suc i) ss)))
        ≡ (if b then Some (Limit Fields (length (get_or ss i d).members)) else option_map (λ n. Limit Fields n) (find (λ n. nat_lt 64 n) (map (λ s. length s.members) (drop (suc i) ss))))
    chosen true = refl
    chosen false = refl

pub params_at : (ps : List ProcInfo) (i : ℕ) (d : ProcInfo) → i < length ps
    → limit_on Params 8 (map pointer_params (drop i ps))
    ≡ (if nat_lt 8 (pointer_params (get_or ps i d)) then Some (Limit Params (pointer_params (get_or ps i d))) else limit_on Params 8 (map pointer_params (drop (i + 1) ps)))
params_at ps i d h = rw (add-one i, drop-cons ps i d h) (chosen (nat_lt 8 (pointer_params (get_or ps i d))))
  where
    chosen : (b : Bool) → option_map (λ n. Limit Params n) (if b then Some (pointer_params (get_or ps i d)) else find (λ n. nat_lt 8 n) (map pointer_params (drop (suc i) ps)))
        ≡ (if b then Some (Limit Params (pointer_params (get_or ps i d))) else option_map (λ n. Limit Params n) (find (λ n. nat_lt 8 n) (map pointer_params (drop (suc i) ps))))
    chosen true = refl
    chosen false = refl

pub pointers_at : (vs : List SlotInfo) (i : ℕ) (d : SlotInfo) → i < length vs
    → pointer_count (drop i vs) ≡ (if is_pointer (get_or vs i d).kind then pointer_count (drop (i + 1) vs) + 1 else pointer_count (drop (i + 1) vs))
pointers_at vs i d h = rw (add-one i, drop-cons vs i d h) refl

pub has_main_at : (ps : List ProcItem) (i : ℕ) (d : ProcItem) → i < length ps
    → list_any is_main (map proc_view (drop i ps)) ≡ (is_main (proc_view (get_or ps i d)) || list_any is_main (map proc_view (drop (i + 1) ps)))
has_main_at ps i d h = rw (add-one i, drop-cons ps i d h) refl
