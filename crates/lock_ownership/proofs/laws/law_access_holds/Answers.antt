use Rattle.lock_ownership.proofs.Accesses.{access_holds, access_owes}
use Rattle.lock_ownership.proofs.laws.law_access_holds.Goals as goal

pub returns-clause-holds : goal.returns-clause-holds
returns-clause-holds c = λ code setup state t told lock stripe run limits reached at comes small open_here. access_holds code setup run limits state t told lock stripe reached at comes small open_here

pub returns-clause-owes : goal.returns-clause-owes
returns-clause-owes c = access_owes
