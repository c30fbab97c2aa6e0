-- The rebuilt program keeps what its type says.
use Rattle.std.specs.Prelude.{List}
use Rattle.c_ast.specs.declared.annot.Annot.{Annot}
use Rattle.c_ir.specs.Keeps.{Keeps}
use Rattle.c_ir.specs.declared.program.Skeleton.{Skeleton}
use Rattle.acsl_terms.specs.Fits.{Free}
use Rattle.acsl_terms.proofs.Formed.{clause_fits}
use Rattle.acsl_bind.specs.Programs.{faults_of, program_of}
use Rattle.c_types.specs.Noted.{NotesFit}
use Rattle.acsl_bind.proofs.Kept.{keeps_by}

pub program_keeps : (s : Skeleton) (annots : List Annot) → Keeps s.program → NotesFit s.program.cells s.notes → Free (faults_of s annots) → Keeps (program_of s annots)
program_keeps s annots keeps notes free = keeps_by clause_fits s annots keeps notes free
