use Rattle.std.proofs.Common.{inr}
use Rattle.fk_server.proofs.Completing.{complete}
use Rattle.fk_server.proofs.Running.{not_begun}
use Rattle.fk_server.proofs.piped.pipe.Goals as goal

pub returns-in-Ok-clause-complete : goal.returns-in-Ok-clause-complete
returns-in-Ok-clause-complete g c = λ valid nothing.
    complete c.in-Ok.settings _ _ _ _ _ _ c.serve_by.ensures.served nothing

pub returns-clause-served : goal.returns-clause-served
returns-clause-served g c = λ valid.
    rw c.unserved-in-Err-NoMemory.ensures (inr (not_begun _))
