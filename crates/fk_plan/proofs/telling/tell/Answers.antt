use Rattle.std.proofs.Common.{◌≡◌, ◌∙◌, ap, refl, codes}
use Rattle.serde_json.specs.Data.{no_members, object, put, string}
use Rattle.serde_json.specs.View.{members_view}
use Rattle.fk_time.specs.Moments.{moment_text}
use Rattle.fk_frame.specs.declared.reply.Reply.TheVariants.{Bulk}
use Rattle.fk_job.proofs.Spelled.{moment_utf8}
use Rattle.fk_model.specs.Bringing.{brought_up}
use Rattle.fk_model.specs.Info.{told_of}
use Rattle.fk_plan.proofs.Objects.{held_is, info_is, now_is}
use Rattle.fk_plan.proofs.telling.tell.Goals as goal

pub string_from-requires : goal.string_from-requires
string_from-requires c = rw c.write_moment.ensures.text (moment_utf8 c.args.moment)

pub returns : goal.returns
returns c = λ word up made.
    let kept = brought_up c.args.tables.now.kept c.args.moment word in
    let told = held_is c.in_ok-told.told (told_of kept) (c.in_ok-told.ensures word up made) in
    let now = now_is c.in_ok-now.now (moment_text c.args.moment) (c.in_ok-now.ensures ∙ c.write_moment.ensures.text) in
    let first : members_view c.put_value.new.members.entries
    ≡ put (codes "now") (string (moment_text c.args.moment)) no_members =
    c.in_ok-put_value.ensures ∙ rw (c.new-members.ensures.empty, now) refl in
    let are : members_view c.put_value-2.new.members.entries
    ≡ put (codes "faktory") (object (told_of kept))
    (put (codes "now") (string (moment_text c.args.moment)) no_members) =
    c.in_ok-put_value-2.ensures
    ∙ ap (λ value. put (codes "faktory") value (members_view c.put_value.new.members.entries)) told
    ∙ ap (put (codes "faktory") (object (told_of kept))) first in
    ap Bulk (c.in_ok-copy.ensures ∙ c.as_bytes.ensures.value
    ∙ info_is kept c.args.moment c.put_value-2.new.members _ are c.in_ok-text.ensures.text)
