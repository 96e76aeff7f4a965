-- Lines and columns over the bytes that are left.
use Rattle.std.proofs.Common.{◌≡◌, ℕ, suc, ◌+◌, ◌<◌, Bool, true, false, List, length, get_or, take, drop, refl, arith, add-one, drop-cons, if◌then◌else◌}
use Rattle.std.specs.Prelude.{count_by}
use Rattle.std.proofs.lemmas.List.Sums.{count_by_more_yes, count_by_more_no}
use Rattle.c_token.specs.Bytes.{is_line_feed}
use Rattle.c_token.specs.Reading.{col_after}

pub col_from : (col : ℕ) (bs : List ℕ) (i d : ℕ) → i < length bs
    → col_after col (drop i bs) ≡ col_after (if is_line_feed (get_or bs i d) then 1 else suc col) (drop (i + 1) bs)
col_from col bs i d h = rw (add-one i, drop-cons bs i d h) refl

pub line_from : (bs : List ℕ) (i d : ℕ) → i < length bs
    → count_by is_line_feed (take (i + 1) bs) ≡ count_by is_line_feed (take i bs) + (if is_line_feed (get_or bs i d) then 1 else 0)
line_from bs i d h = go (is_line_feed (get_or bs i d)) refl
  where
    go : (t : Bool) → is_line_feed (get_or bs i d) ≡ t
        → count_by is_line_feed (take (i + 1) bs) ≡ count_by is_line_feed (take i bs) + (if is_line_feed (get_or bs i d) then 1 else 0)
    go true e = rw e (count_by_more_yes is_line_feed bs i d h e)
    go false e = let n = count_by_more_no is_line_feed bs i d h e in rw e (omega (arith, n))
