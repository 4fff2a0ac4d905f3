use Rattle.std.proofs.lemmas.List.{drop-drop, drop-take, drop_min}
use Rattle.fk_io.proofs.byte_source.ByteSource.go_past.Goals as goal

pub returns : goal.returns
returns c =
    rw (← c.self.view_is, c.raised-self-inside.ensures)
    (rw (c.min-self-inside.ensures, c.as_slice.ensures.value)
    (simp (drop_min, drop-drop, drop-take)))
