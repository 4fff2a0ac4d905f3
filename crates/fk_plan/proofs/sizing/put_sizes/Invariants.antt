use Rattle.std.proofs.Common.{◌≡◌, ℕ, drop, map}
use Rattle.std.specs.Prelude.{fold}
use Rattle.serde_json.specs.View.{members_view}
use Rattle.fk_lists.specs.declared.size.Size.{Size}
use Rattle.fk_model.specs.Bringing.{brought_up}
use Rattle.fk_model.specs.Info.{with_queue}
use Rattle.fk_plan.proofs.sizing.put_sizes.Given as goal

-- those that are there, and those of the names that are left, are all
abbrev pub invariant-naming : goal.invariant-naming
invariant-naming l = (word : ℕ)
    → fold (with_queue (brought_up l.tables.kept l.moment word).rows) (members_view l.members.entries)
    (map (λ (size : Size). size.name) (drop l.size-index l.names))
    ≡ fold (with_queue (brought_up l.tables.kept l.moment word).rows) (members_view l.fn.members.entries)
    (map (λ (size : Size). size.name) l.names)
