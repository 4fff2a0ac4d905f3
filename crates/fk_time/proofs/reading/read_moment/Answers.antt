use Rattle.std.proofs.Common.{◌∙◌, Ok, sym, ap, subst}
use Rattle.fk_time.specs.Reading.{ReadsAs}
use Rattle.fk_time.proofs.Forms.{again, again_of, found}
use Rattle.fk_time.proofs.reading.read_moment.Goals as goal

pub returns-in_default-clause-err : goal.returns-in_default-clause-err
returns-in_default-clause-err c = λ form.
    let read = again c.args.text.now form.0 form.1 in
    c.in_default.not-Some read.parts (c.parts_of.ensures.value ∙ read.read)

pub returns-in_default-clause-only : goal.returns-in_default-clause-only
returns-in_default-clause-only c = λ moment form.
    let read = again c.args.text.now moment form in
    absurd (c.in_default.not-Some read.parts (c.parts_of.ensures.value ∙ read.read))

pub returns-in-Some-moment-clause-ok : goal.returns-in-Some-moment-clause-ok
returns-in-Some-moment-clause-ok c =
    let some = c.in-Some-moment.ensures.some in
    let text = c.args.text.now in
    subst (λ m. ReadsAs text m) (sym some.1)
    (found text c.in-Some.parts (sym c.in-Some.ensures.value) some.0)

pub returns-in-Some-moment-clause-only : goal.returns-in-Some-moment-clause-only
returns-in-Some-moment-clause-only c = λ moment form.
    let read = again_of c.args.text.now moment c.in-Some.parts c.in-Some.ensures.value form in
    ap (λ m. Ok m) (c.in-Some-moment.ensures.some.1 ∙ sym read.1)

pub returns-in-None-clause-only : goal.returns-in-None-clause-only
returns-in-None-clause-only c = λ moment form.
    let read = again_of c.args.text.now moment c.in-Some.parts c.in-Some.ensures.value form in
    let some = c.in-None.ensures.only read.0 in
    absurd cc

pub returns-in-None-clause-err : goal.returns-in-None-clause-err
returns-in-None-clause-err c = λ form.
    let read = again_of c.args.text.now form.0 c.in-Some.parts c.in-Some.ensures.value form.1 in
    let some = c.in-None.ensures.only read.0 in
    absurd cc
