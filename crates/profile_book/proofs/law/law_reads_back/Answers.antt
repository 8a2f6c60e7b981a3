use Rattle.profile_book.specs.Writing.{profile_text}
use Rattle.profile_book.proofs.OneAnswer.{one_profile}
use Rattle.profile_book.proofs.ReadBack.{reads_back}
use Rattle.profile_book.proofs.law.law_reads_back.Goals as goal

pub returns-clause-reads : goal.returns-clause-reads
returns-clause-reads c ps h = reads_back ps h

pub returns-clause-only : goal.returns-clause-only
returns-clause-only c ps qs h other = one_profile (profile_text ps) qs ps other (reads_back ps h)
