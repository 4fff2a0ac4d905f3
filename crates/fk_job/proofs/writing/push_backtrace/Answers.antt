use Rattle.std.proofs.Common.{◌≡◌, ◌++◌, ◌∷◌, codes, length, ap, sym, ◌∙◌}
use Rattle.std.proofs.lemmas.List.{append-nil}
use Rattle.std.specs.List.{flat_map}
use Rattle.std.specs.Str.{byte}
use Rattle.fk_json.specs.String.{spelling}
use Rattle.fk_job.specs.RowText.{further, written_member}
use Rattle.fk_job.proofs.Pushing.{array_ok}
use Rattle.fk_job.proofs.Strings.{further_strings-none, further_strings-cons}
use Rattle.fk_job.proofs.writing.push_backtrace.Goals as goal

pub returns-in_default : goal.returns-in_default
returns-in_default c =
    rw (further_strings-none (codes "backtrace") c.args.backtrace.now (ap length (sym c.as_slice.ensures) ∙ c.in_default.ensures.cases))
    (sym (append-nil c.args.out.now))

pub returns : goal.returns
unfolding further written_member
returns c =
    let first = c.in-Some.first.now in
    let others = c.in-Some.others.now in
    let whole : c.args.backtrace.now ≡ first ∷ others = sym c.as_slice.ensures ∙ c.in-Some.ensures.cases.0 in
    rw (whole, further_strings-cons (codes "backtrace") first others)
    (array_ok c.push_bytes-3.result c.args.out.now c.push_bytes.new.self c.push_bytes-2.new.self c.push_string.new.out
    c.push_others.new.out c.push_bytes-3.new.self
    (codes "," ++ (spelling (codes "backtrace") ++ codes ":")) (codes "[") (spelling first)
    (flat_map (λ text. byte "," ∷ spelling text) others) (codes "]")
    c.in_ok-push_bytes.ensures.ok c.in_ok-push_bytes-2.ensures.ok c.in_ok-push_string.ensures.ok c.in_ok-push_others.ensures
    c.push_bytes-3.ensures.ok)
