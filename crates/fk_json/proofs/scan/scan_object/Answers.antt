use Rattle.std.proofs.Common.{refl, sym}
use Rattle.fk_json.specs.Members.{inner_levels}
use Rattle.fk_json.specs.declared.mode.Bracket.TheVariants.{Object}
use Rattle.fk_json.proofs.MemberPlaces.{members_in}
use Rattle.fk_json.proofs.ReadTo.{ends_there, only_memory, starts_at, finds_member}
use Rattle.fk_json.proofs.scan.scan_object.Goals as goal

pub items-init : goal.items-init
items-init c =
    starts_at Object c.args.text.now c.new-members.result c.first_cursor-cursor.result c.new-members.ensures
    c.first_cursor-cursor.ensures.at c.first_cursor-cursor.ensures.standing

pub push_member-requires : goal.push_member-requires
push_member-requires c =
    let s = c.in-Ok-Found in
    finds_member c.args.text.now c.items.members c.items.cursor s.behind s.field-0 s.found s.ensures.ok s.field-0-is
    c.items.invariant

pub returns-in-Ok-End-clause-ok : goal.returns-in-Ok-End-clause-ok
returns-in-Ok-End-clause-ok c =
    (ends_there Object c.args.text.now c.items.members c.items.members c.items.cursor c.in-Ok-End.field-0
    c.in-Ok-End.ensures.ok c.in-Ok-End.field-0-is c.items.invariant).1 refl

pub returns-in-Ok-End-clause-placed : goal.returns-in-Ok-End-clause-placed
returns-in-Ok-End-clause-placed c =
    members_in inner_levels c.args.text.now c.items.members
    ((ends_there Object c.args.text.now c.items.members c.items.members c.items.cursor c.in-Ok-End.field-0
    c.in-Ok-End.ensures.ok c.in-Ok-End.field-0-is c.items.invariant).1 refl)

pub returns-in-Ok-End-clause-whole : goal.returns-in-Ok-End-clause-whole
returns-in-Ok-End-clause-whole c = λ items is.
    sym ((ends_there Object c.args.text.now c.items.members items c.items.cursor c.in-Ok-End.field-0
    c.in-Ok-End.ensures.ok c.in-Ok-End.field-0-is c.items.invariant).0 is)

pub returns-in-Err-clause-fault : goal.returns-in-Err-clause-fault
returns-in-Err-clause-fault c = c.in-Err.ensures.fault c.items.members c.items.invariant

pub returns-in-Err-clause-whole : goal.returns-in-Err-clause-whole
returns-in-Err-clause-whole c = λ items is.
    only_memory Object c.args.text.now c.in-Err.fault items (c.in-Err.ensures.fault c.items.members c.items.invariant) is
