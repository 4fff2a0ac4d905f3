use Rattle.std.proofs.Common.{refl, sym}
use Rattle.fk_json.specs.Members.{inner_levels}
use Rattle.fk_json.specs.declared.mode.Bracket.TheVariants.{Array}
use Rattle.fk_json.proofs.MemberPlaces.{elements_in}
use Rattle.fk_json.proofs.ReadTo.{ends_there, only_memory, starts_at}
use Rattle.fk_json.proofs.scan.scan_array.Goals as goal

pub items-init : goal.items-init
items-init c =
    starts_at Array c.args.text.now c.new-elements.result c.first_cursor-cursor.result c.new-elements.ensures
    c.first_cursor-cursor.ensures.at c.first_cursor-cursor.ensures.standing

pub returns-in-Ok-End-clause-ok : goal.returns-in-Ok-End-clause-ok
returns-in-Ok-End-clause-ok c =
    (ends_there Array c.args.text.now c.items.elements c.items.elements c.items.cursor c.in-Ok-End.field-0
    c.in-Ok-End.ensures.ok c.in-Ok-End.field-0-is c.items.invariant).1 refl

pub returns-in-Ok-End-clause-placed : goal.returns-in-Ok-End-clause-placed
returns-in-Ok-End-clause-placed c =
    elements_in inner_levels c.args.text.now c.items.elements
    ((ends_there Array c.args.text.now c.items.elements c.items.elements c.items.cursor c.in-Ok-End.field-0
    c.in-Ok-End.ensures.ok c.in-Ok-End.field-0-is c.items.invariant).1 refl)

pub returns-in-Ok-End-clause-whole : goal.returns-in-Ok-End-clause-whole
returns-in-Ok-End-clause-whole c = λ items is.
    sym ((ends_there Array c.args.text.now c.items.elements items c.items.cursor c.in-Ok-End.field-0
    c.in-Ok-End.ensures.ok c.in-Ok-End.field-0-is c.items.invariant).0 is)

pub returns-in-Err-clause-fault : goal.returns-in-Err-clause-fault
returns-in-Err-clause-fault c = c.in-Err.ensures.fault c.items.elements c.items.invariant

pub returns-in-Err-clause-whole : goal.returns-in-Err-clause-whole
returns-in-Err-clause-whole c = λ items is.
    only_memory Array c.args.text.now c.in-Err.fault items (c.in-Err.ensures.fault c.items.elements c.items.invariant) is
