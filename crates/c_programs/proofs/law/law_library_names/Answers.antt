use Rattle.c_programs.proofs.LibraryNames.{library_name}
use Rattle.c_programs.proofs.law.law_library_names.Goals as goal

pub returns : goal.returns
returns c = library_name
