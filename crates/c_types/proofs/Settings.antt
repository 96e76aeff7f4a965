-- What the declarations of a file say of its structs and procedures.
use Rattle.std.specs.Prelude.{◌≡◌, ℕ, ◌≤◌, List, length, Some, IfSome, slice_get, position, bytes_eq}
use Rattle.std.specs.List.{All}
use Rattle.c_types.specs.declared.infos.StructInfo.{StructInfo}
use Rattle.c_types.specs.declared.infos.ProcInfo.{ProcInfo}
use Rattle.c_types.specs.declared.tables.Signature.{Signature}
use Rattle.c_types.specs.declared.tables.Tables.{Tables}
use Rattle.c_types.specs.Declarations.{signature_of}
use Rattle.c_types.specs.Fits.{params_of, TypeExists}

-- the procedure that a name calls has the types that are declared
pub record IsCallee (c : Tables) (ps : List ProcInfo) (f : List ℕ) (s : Signature) : Type 0 where
  pub number : ℕ
  pub is : position (bytes_eq f) c.procs ≡ Some number
  pub info : ProcInfo
  pub has : slice_get ps number ≡ Some info
  pub params : params_of info ≡ s.params
  pub result : info.result ≡ s.result

pub record SignatureExists (ss : List StructInfo) (s : Signature) : Type 0 where
  pub params : All (TypeExists ss) s.params
  pub result : IfSome s.result (TypeExists ss)

-- the declarations are those of these structs and procedures
pub record AreTables (c : Tables) (ss : List StructInfo) (ps : List ProcInfo) : Type 0 where
  pub structs : c.structs ≡ ss
  pub defined : c.defined ≤ length ss
  pub members_exist : All (λ s. All (λ m. TypeExists ss m.kind) s.members) ss
  pub callee : (f : List ℕ) (s : Signature) → signature_of c f ≡ Some s → IsCallee c ps f s
  pub exist : (f : List ℕ) (s : Signature) → signature_of c f ≡ Some s → SignatureExists ss s
