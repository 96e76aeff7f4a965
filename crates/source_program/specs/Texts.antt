-- The lines that say why a source is refused.
use Rattle.std.specs.Prelude.{ℕ, List, ◌++◌, codes, decimal}
use Rattle.c_token.specs.Reading.{line_at, col_at}
use Rattle.c_types.specs.declared.error.LimitKind.{LimitKind}
use Rattle.source_program.specs.declared.refusal.Refusal.{Refusal}

-- a line that names a file
abbrev pub line_on : List ℕ → List ℕ → List ℕ
line_on front name = front ++ name ++ codes "\n"

-- a line on the byte at place k of a source: its line and its column, both from 1, and what is said of it
abbrev pub line_at_place : List ℕ → ℕ → List ℕ → List ℕ
line_at_place source k said =
    decimal (line_at source k) ++ codes ":" ++ decimal (col_at source k) ++ codes ": " ++ said ++ codes "\n"

abbrev pub limit_word : LimitKind → List ℕ
limit_word LimitKind.Structs = codes "structs"
limit_word LimitKind.Fields = codes "fields"
limit_word LimitKind.Procs = codes "procs"
limit_word LimitKind.Params = codes "params"
limit_word LimitKind.Unknowns = codes "unknowns"

-- the line that says why a source of that name is refused
abbrev pub refusal_line : List ℕ → List ℕ → Refusal → List ℕ
refusal_line source name Refusal.TooLong = line_on (codes "too long: ") name
refusal_line source name (Refusal.Lex k) = line_at_place source k (codes "no token")
refusal_line source name (Refusal.Parse k) = line_at_place source k (codes "not in the grammar")
refusal_line source name (Refusal.BadType k rule) = line_at_place source k (codes "type rule " ++ decimal rule)
refusal_line source name Refusal.NoMain = codes "no int main(void)\n"
refusal_line source name (Refusal.Limit kind count) = codes "limit " ++ limit_word kind ++ codes " " ++ decimal count ++ codes "\n"
