-- The numbers of a program's groups: how many unknowns there are, and which of them stand for one another at sites.
use Rattle.std.specs.Prelude.{◌≡◌, ℕ, suc, ◌+◌, ◌-◌, ◌<◌, ◌≤◌, ◌^◌, ◌&&◌, cond, List, [], length, nat_le, nat_lt, sum_by, Option, Some, None, slice_get, slice_index, slice_index_or}
use Rattle.std.specs.List.{range_with_len}
use Rattle.zo_core.specs.Literals.{Literal}
use Rattle.zo_core.specs.declared.number_range.NumberRange.{NumberRange}
use Rattle.verdict_meaning.specs.Systems.{System, root, members, callee, callees, pi_numbers, sigma_numbers, count}
use Rattle.verdict_meaning.specs.Programs.{group_of}
use Rattle.unit_answers.specs.declared.layouts.Call.{Call}

abbrev pub numbers_in : NumberRange → List ℕ
numbers_in r = range_with_len r.first r.count

-- how many unknowns of a group are of fields or of the interfaces of its members
abbrev pub outer_count : System → ℕ → ℕ
outer_count s g = s.fields + sum_by s.parts (members s g)

-- the call at a site of a group: whom it calls, the unknowns of the called interface in its group, and those of the site
pub record IsCallAt (s : System) (g site : ℕ) (c : Call) : Type 0 where
  pub callee : c.callee ≡ callee s g site
  pub lower : c.callee.group < g
  pub size : c.there.count ≡ c.here.count
  pub there : numbers_in c.there ≡ pi_numbers s c.callee.group c.callee.proc
  pub there_first : s.fields < c.there.first
  pub there_last : c.there.first + c.there.count ≤ outer_count s c.callee.group + 1
  pub here : numbers_in c.here ≡ sigma_numbers s g site
  pub here_first : 0 < c.here.first
  pub here_last : c.here.first + c.here.count ≤ count s g + 1

-- the unknowns of a procedure's interface in its group
pub record IsFace (s : System) (g k : ℕ) (r : NumberRange) : Type 0 where
  pub numbers : numbers_in r ≡ pi_numbers s g k
  pub size : r.count ≡ s.parts k
  pub first : s.fields < r.first
  pub last : r.first + r.count ≤ outer_count s g + 1

-- the unknowns of a site
pub record IsSiteFace (s : System) (g site : ℕ) (r : NumberRange) : Type 0 where
  pub numbers : numbers_in r ≡ sigma_numbers s g site
  pub size : r.count ≡ s.parts (callee s g site).proc
  pub first : 0 < r.first
  pub last : r.first + r.count ≤ count s g + 1

-- a range is that of so many numbers from a first one, or there are none and it begins at another
pub record IsPart (none first count : ℕ) (r : NumberRange) : Type 0 where
  pub count_is : r.count ≡ count
  pub first_is : 0 < count → r.first ≡ first
  pub none_is : count ≡ 0 → r.first ≡ none

-- by procedure, the number of its group
pub record AreHomes (groups : List (List ℕ)) (bodies : ℕ) (homes : List ℕ) : Type 0 where
  pub count : length homes ≡ bodies
  pub each : (k : ℕ) → k < bodies → slice_index homes k ≡ group_of groups k

pub record GroupNumbers : Type 0 where
  -- how many unknowns there are
  pub count : ℕ
  -- how many of them are of fields or of the interfaces of the members
  pub outer : ℕ
  -- by site
  pub calls : List Call

abbrev pub no_numbers : GroupNumbers
no_numbers = record { count = 0; outer = 0; calls = [] }

pub record AreGroupNumbers (s : System) (g : ℕ) (n : GroupNumbers) : Type 0 where
  pub count : n.count ≡ count s g
  pub small : n.count < 2 ^ 31
  pub outer : n.outer ≡ outer_count s g
  pub sites : length n.calls ≡ length (callees s g)
  pub few : length n.calls < 2 ^ 32
  pub each : (site : ℕ) (c : Call) → slice_get n.calls site ≡ Some c → IsCallAt s g site c

pub record Numbers : Type 0 where
  pub fields : ℕ
  -- for each group, and last for the root
  pub groups : List GroupNumbers

abbrev pub group_at : Numbers → ℕ → GroupNumbers
group_at l g = slice_index_or l.groups g no_numbers

pub record IsLayoutOf (s : System) (l : Numbers) : Type 0 where
  pub fields : l.fields ≡ s.fields
  pub groups : length l.groups ≡ suc (root s)
  pub few : length l.groups ≤ 2 ^ 32
  pub each : (g : ℕ) → g ≤ root s → AreGroupNumbers s g (group_at l g)

-- it is the layout of some system
abbrev pub IsLayout : Numbers → Type 0
IsLayout l = (s : System) × IsLayoutOf s l

-- the unknown that stands at the site of a call for one of the called group: a field's for itself, and one of the called
-- interface for that in its place; there is none for another
abbrev pub carried_var : ℕ → Call → ℕ → Option ℕ
carried_var fields c v =
    cond (nat_le v fields) (Some v)
    (cond (nat_le c.there.first v && nat_lt (v - c.there.first) c.there.count) (Some (c.here.first + (v - c.there.first))) None)

pub record StandsAt (fields : ℕ) (c : Call) (m l : Literal) : Type 0 where
  pub var : carried_var fields c m.var ≡ Some l.var
  pub sign : l.sign ≡ m.sign

-- the call fits a layout in which group g makes it
pub record CallFits (l : Numbers) (g : ℕ) (c : Call) : Type 0 where
  pub lower : c.callee.group < g
  pub size : c.there.count ≡ c.here.count
  pub fields : l.fields ≤ (group_at l c.callee.group).outer
  pub there_last : c.there.first + c.there.count ≤ (group_at l c.callee.group).outer + 1
  pub here_first : 0 < c.here.first
  pub here_last : c.here.first + c.here.count ≤ (group_at l g).count + 1
