use Rattle.fk_json.proofs.Direct.{in_after, in_colon}
use Rattle.fk_json.proofs.border.between.Goals as goal

pub returns-in-Colon : goal.returns-in-Colon
returns-in-Colon c =
    in_colon c.args.bracket c.args.mode c.args.standing.now c.args.at c.args.byte _ c.in-Colon.is c.requires (c.colon_at.ensures c.args.at)

pub returns-in-After : goal.returns-in-After
returns-in-After c =
    in_after c.args.bracket c.args.mode c.args.standing.now c.args.at c.args.byte _ c.in-After.is c.requires (c.behind_item.ensures c.args.at)
