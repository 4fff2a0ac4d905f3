use Rattle.std.proofs.Common.{[], inr, refl}
use Rattle.fk_conn.proofs.Turning.{turned_nothing}
use Rattle.fk_server.proofs.serving.serve_session.Goals as goal

pub returns-in-Err : goal.returns-in-Err
returns-in-Err g c =
    ([], turned_nothing _, inr (record { memory = refl; none = refl; input = refl; out = refl }))
