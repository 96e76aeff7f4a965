-- The text of a sample: a program with many procedures, each of which calls the one before it twice.
use Rattle.std.specs.Prelude.{ℕ, ◌+◌, ◌-◌, zero, suc, List, [], ◌++◌, codes, decimal}

abbrev pub struct_line : List ℕ
struct_line = codes "struct node { int v; struct node *next; };\n"

-- the procedure that calls none
abbrev pub leaf_line : List ℕ
leaf_line = codes "struct node *f0(struct node *p) { return p; }\n"

-- the procedure of the number after j
abbrev pub caller_line : ℕ → List ℕ
caller_line j = codes "struct node *f" ++ decimal (j + 1)
    ++ codes "(struct node *p) { struct node *q; q = f" ++ decimal j
    ++ codes "(p); return f" ++ decimal j ++ codes "(q); }\n"

-- those of the numbers from 1 to j
abbrev pub caller_lines : ℕ → List ℕ
caller_lines zero = []
caller_lines (suc j) = caller_lines j ++ caller_line j

-- `main`, which calls the procedure of number m
abbrev pub main_line : ℕ → List ℕ
main_line m = codes "int main(void) { struct node *a; struct node *b; a = malloc(sizeof(struct node)); b = f"
    ++ decimal m ++ codes "(a); free(b); return 0; }\n"

-- the text with so many procedures beside `main`
abbrev pub sample_text : ℕ → List ℕ
sample_text count = struct_line ++ leaf_line ++ caller_lines (count - 1) ++ main_line (count - 1)
