-- When a group's unknowns are refused.
use Rattle.std.specs.Prelude.{◌≡◌, ◌<◌, ⊤, List, length}
use Rattle.c_types.specs.declared.error.LimitKind.TheVariants as kind
use Rattle.owner_vars.specs.declared.error.NumberError.{NumberError}
use Rattle.owner_vars.specs.declared.error.NumberError.TheVariants as error
use Rattle.owner_vars.specs.Unknowns.{Unknown}

-- want of memory has no cause; more than 8,388,608 unknowns are refused with how many they are
abbrev pub IsRefused : List Unknown → NumberError → Type 0
IsRefused us error.Memory = ⊤
IsRefused us (error.Limit limit count) = (limit ≡ kind.Unknowns) × (count ≡ length us) × (8388608 < length us)
