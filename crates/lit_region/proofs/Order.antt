-- References in order, one more of them, and one of them.
use Rattle.std.proofs.Common.{ℕ, zero, suc, ◌<◌, ◌≤◌, List, [], ◌∷◌, ◌++◌, length, get_or, arith}
use Rattle.lit_region.specs.Contents.{AreInOrder}

-- the references stay in order where there are more clauses
pub in_order_more : (last count more : ℕ) (rs : List ℕ) → count ≤ more → AreInOrder last count rs → AreInOrder last more rs
in_order_more last count more [] h o = tt
in_order_more last count more (zero ∷ rs) h o = in_order_more last count more rs h o
in_order_more last count more (suc k ∷ rs) h o = (o.0, omega (arith, o.1), in_order_more (suc k) count more rs h o.2)

one_above : (last count : ℕ) → last ≤ count → AreInOrder last (suc count) (suc count ∷ [])
one_above last count h = (h, omega arith, tt)

-- the reference of a clause that was put last stands last
pub in_order_push : (last count : ℕ) (rs : List ℕ) → last ≤ count → AreInOrder last count rs → AreInOrder last (suc count) (rs ++ suc count ∷ [])
in_order_push last count [] h o = one_above last count h
in_order_push last count (zero ∷ rs) h o = in_order_push last count rs h o
in_order_push last count (suc k ∷ rs) h o = (o.0, omega (arith, o.1), in_order_push (suc k) count rs (omega (arith, o.1)) o.2)

-- each of them is live
pub in_order_at : (last count : ℕ) (rs : List ℕ) (i d : ℕ) → AreInOrder last count rs → i < length rs → get_or rs i d ≤ count
in_order_at last count [] i d o h = absurd (omega arith)
in_order_at last count (zero ∷ rs) zero d o h = omega arith
in_order_at last count (zero ∷ rs) (suc i) d o h = in_order_at last count rs i d o (omega arith)
in_order_at last count (suc k ∷ rs) zero d o h = omega (arith, o.1)
in_order_at last count (suc k ∷ rs) (suc i) d o h = in_order_at (suc k) count rs i d o.2 (omega arith)
