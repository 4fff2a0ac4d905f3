use Rattle.fk_json.proofs.ReadTo.{finds_name}
use Rattle.fk_json.proofs.scan.name_at.Goals as goal

pub returns : goal.returns
returns c =
    finds_name c.args.text.now c.args.places c.requires.0 c.string_value.result c.requires.1
    c.string_value.ensures.some c.string_value.ensures.none
