use Rattle.std.proofs.Common.{◌<◌, ◌^◌, arith, rules}
use Rattle.fk_frame.proofs.Lengths.{reads, refuses, exceeds}
use Rattle.fk_frame.proofs.bulk_length.number_in.Goals as goal

pub returns-in-Ok : goal.returns-in-Ok
returns-in-Ok c = record {
  fits = omega arith;
  same = reads _ _ c.requires c.in-Ok.ensures.value.0;
}

pub returns-in_default : goal.returns-in_default
returns-in_default c h =
    let fits : c.in-Ok.count < 2 ^ 64 = search rules in
    exceeds _ _ (reads _ _ c.requires c.in-Ok.ensures.value.0) fits (omega arith) h

pub returns-in_default-2 : goal.returns-in_default-2
returns-in_default-2 c h = refuses _ c.requires c.in_default.ensures.value.0 h
