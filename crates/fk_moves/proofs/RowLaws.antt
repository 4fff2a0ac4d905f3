-- The parts of a row, and moves, are fields.
use Rattle.std.proofs.Common.{◌≡◌, ℕ, zero, suc, ◌≤◌, Bool, ℤ, List, Option, Some, refl, ap, ◌∙◌, arith}
use Rattle.std.specs.Prelude.{◌==◌}
use Rattle.std.proofs.lemmas.Bool.Decides.{nat_tests}
use Rattle.fk_job.specs.declared.failure.FailureParts.{FailureParts}
use Rattle.fk_job.specs.declared.job.Job.{Job}
use Rattle.fk_job.specs.Fields.{least_reserve, most_reserve}
use Rattle.fk_model.specs.declared.place.Place.{Place}
use Rattle.fk_model.specs.declared.place.Place.TheVariants.{Queued, Scheduled, Retry, Dead, Working}
use Rattle.fk_model.specs.declared.row.Row.{Row}
use Rattle.fk_model.specs.declared.move_.Move.{Move}
use Rattle.fk_model.specs.declared.move_.Move.TheVariants.{Add, Put, Drop, DropAll, Totals}
use Rattle.fk_moves.specs.declared.rest.Rest.{Rest}
use Rattle.fk_moves.specs.Fields.{Field, nothing, part}
use Rattle.fk_moves.specs.Parts.{word, choice, between, moment, optional, flag, retry, text, queue, texts, failure, job, place, place_tag, place_behind, said_of, wid_of, since_of, until_of, working, rest, rest_of_row, row, move_tag, move_behind, ticket_of, row_of, rest_of_put, next_of, processed_of, failures_of, added, put, totals, one_move}
use Rattle.fk_moves.proofs.FieldLaws.{IsField}
use Rattle.fk_moves.proofs.PartLaw.{choose_law, nothing_law, part_law, parted}
use Rattle.fk_moves.proofs.Guards.{word_field, between_law}
use Rattle.fk_moves.proofs.NamedLaws.{choice_law, moment_law, flag_law, optional_law, text_law, texts_law}
use Rattle.fk_moves.proofs.QueueLaws.{queue_law, retry_law}

pub failure_law : IsField failure
unfolding failure
failure_law =
    let others_6 = λ (so_often : ℕ) (failed : ℕ) (next : Option ℕ) (errtype : List ℕ) (message : List ℕ) (backtrace : List (List ℕ)). let made : FailureParts = record { count = so_often; failed = failed; next = next; errtype = errtype; message = message; backtrace = backtrace } in nothing made in
    let others_5 = λ (so_often : ℕ) (failed : ℕ) (next : Option ℕ) (errtype : List ℕ) (message : List ℕ). part (λ (f : FailureParts). Some f.backtrace) texts (others_6 so_often failed next errtype message) in
    let others_4 = λ (so_often : ℕ) (failed : ℕ) (next : Option ℕ) (errtype : List ℕ). part (λ (f : FailureParts). Some f.message) text (others_5 so_often failed next errtype) in
    let others_3 = λ (so_often : ℕ) (failed : ℕ) (next : Option ℕ). part (λ (f : FailureParts). Some f.errtype) text (others_4 so_often failed next) in
    let others_2 = λ (so_often : ℕ) (failed : ℕ). part (λ (f : FailureParts). Some f.next) (optional moment) (others_3 so_often failed) in
    let others_1 = λ (so_often : ℕ). part (λ (f : FailureParts). Some f.failed) moment (others_2 so_often) in
    part_law (λ (f : FailureParts). Some f.count) word others_1 word_field
    (λ so_often _. part_law (λ (f : FailureParts). Some f.failed) moment (others_2 so_often) moment_law
    (λ failed _. part_law (λ (f : FailureParts). Some f.next) (optional moment) (others_3 so_often failed) (optional_law moment moment_law)
    (λ next _. part_law (λ (f : FailureParts). Some f.errtype) text (others_4 so_often failed next) text_law
    (λ errtype _. part_law (λ (f : FailureParts). Some f.message) text (others_5 so_often failed next errtype) text_law
    (λ message _. part_law (λ (f : FailureParts). Some f.backtrace) texts (others_6 so_often failed next errtype message) texts_law
    (λ backtrace _. nothing_law _)
    (λ backtrace_ v _ has. ap (λ (f : FailureParts). Some f.backtrace) has))
    (λ message_ v _ has. ap (λ (f : FailureParts). Some f.message) has.1))
    (λ errtype_ v _ has. ap (λ (f : FailureParts). Some f.errtype) has.1.1))
    (λ next_ v _ has. ap (λ (f : FailureParts). Some f.next) has.1.1.1))
    (λ failed_ v _ has. ap (λ (f : FailureParts). Some f.failed) has.1.1.1.1))
    (λ so_often_ v _ has. ap (λ (f : FailureParts). Some f.count) has.1.1.1.1.1)

pub job_law : IsField job
unfolding job
job_law =
    let others_8 = λ (jid : List ℕ) (jobtype : List ℕ) (named : List ℕ) (tries : ℤ) (reserve_for : ℕ) (at : Option ℕ) (has_created : Bool) (body : List ℕ). let made : Job = record { jid = jid; jobtype = jobtype; queue = named; retry = tries; reserve_for = reserve_for; at = at; has_created = has_created; body = body } in nothing made in
    let others_7 = λ (jid : List ℕ) (jobtype : List ℕ) (named : List ℕ) (tries : ℤ) (reserve_for : ℕ) (at : Option ℕ) (has_created : Bool). part (λ (j : Job). Some j.body) text (others_8 jid jobtype named tries reserve_for at has_created) in
    let others_6 = λ (jid : List ℕ) (jobtype : List ℕ) (named : List ℕ) (tries : ℤ) (reserve_for : ℕ) (at : Option ℕ). part (λ (j : Job). Some j.has_created) flag (others_7 jid jobtype named tries reserve_for at) in
    let others_5 = λ (jid : List ℕ) (jobtype : List ℕ) (named : List ℕ) (tries : ℤ) (reserve_for : ℕ). part (λ (j : Job). Some j.at) (optional moment) (others_6 jid jobtype named tries reserve_for) in
    let others_4 = λ (jid : List ℕ) (jobtype : List ℕ) (named : List ℕ) (tries : ℤ). part (λ (j : Job). Some j.reserve_for) (between least_reserve most_reserve) (others_5 jid jobtype named tries) in
    let others_3 = λ (jid : List ℕ) (jobtype : List ℕ) (named : List ℕ). part (λ (j : Job). Some j.retry) retry (others_4 jid jobtype named) in
    let others_2 = λ (jid : List ℕ) (jobtype : List ℕ). part (λ (j : Job). Some j.queue) queue (others_3 jid jobtype) in
    let others_1 = λ (jid : List ℕ). part (λ (j : Job). Some j.jobtype) text (others_2 jid) in
    part_law (λ (j : Job). Some j.jid) text others_1 text_law
    (λ jid _. part_law (λ (j : Job). Some j.jobtype) text (others_2 jid) text_law
    (λ jobtype _. part_law (λ (j : Job). Some j.queue) queue (others_3 jid jobtype) queue_law
    (λ named _. part_law (λ (j : Job). Some j.retry) retry (others_4 jid jobtype named) retry_law
    (λ tries _. part_law (λ (j : Job). Some j.reserve_for) (between least_reserve most_reserve) (others_5 jid jobtype named tries) (between_law least_reserve most_reserve (omega arith) (omega arith))
    (λ reserve_for _. part_law (λ (j : Job). Some j.at) (optional moment) (others_6 jid jobtype named tries reserve_for) (optional_law moment moment_law)
    (λ at _. part_law (λ (j : Job). Some j.has_created) flag (others_7 jid jobtype named tries reserve_for at) flag_law
    (λ has_created _. part_law (λ (j : Job). Some j.body) text (others_8 jid jobtype named tries reserve_for at has_created) text_law
    (λ body _. nothing_law _)
    (λ body_ v _ has. ap (λ (j : Job). Some j.body) has))
    (λ has_created_ v _ has. ap (λ (j : Job). Some j.has_created) has.1))
    (λ at_ v _ has. ap (λ (j : Job). Some j.at) has.1.1))
    (λ reserve_for_ v _ has. ap (λ (j : Job). Some j.reserve_for) has.1.1.1))
    (λ tries_ v _ has. ap (λ (j : Job). Some j.retry) has.1.1.1.1))
    (λ named_ v _ has. ap (λ (j : Job). Some j.queue) has.1.1.1.1.1))
    (λ jobtype_ v _ has. ap (λ (j : Job). Some j.jobtype) has.1.1.1.1.1.1))
    (λ jid_ v _ has. ap (λ (j : Job). Some j.jid) has.1.1.1.1.1.1.1)

pub working_law : IsField working
unfolding working
working_law =
    let others_3 = λ (wid : List ℕ) (since : ℕ) (until : ℕ). let made : Place = Working wid since until in nothing made in
    let others_2 = λ (wid : List ℕ) (since : ℕ). part until_of moment (others_3 wid since) in
    let others_1 = λ (wid : List ℕ). part since_of moment (others_2 wid) in
    part_law wid_of text others_1 text_law
    (λ wid _. part_law since_of moment (others_2 wid) moment_law
    (λ since _. part_law until_of moment (others_3 wid since) moment_law
    (λ until _. nothing_law _)
    (λ until_ v _ has. ap until_of has))
    (λ since_ v _ has. let p2 = parted until_of moment (others_3 wid since_) v has in ap since_of p2.rests))
    (λ wid_ v _ has. let p1 = parted since_of moment (others_2 wid_) v has in let p2 = parted until_of moment (others_3 wid_ p1.found) v p1.rests in ap wid_of p2.rests)

said_law : (made : ℕ → Place) (field : Field ℕ) → IsField field → ((n : ℕ) → said_of (made n) ≡ Some n)
    → IsField (part said_of field (λ n. nothing (made n)))
said_law made field law says = part_law said_of field (λ n. nothing (made n)) law (λ n _. nothing_law (made n))
    (λ n v _ has. ap said_of has ∙ says n)

place_behind_law : (tag : ℕ) → IsField (place_behind tag)
place_behind_law tag =
    choose_law (tag == 1) _ _ (said_law (λ n. Queued n) word word_field (λ n. refl))
    (choose_law (tag == 2) _ _ (said_law (λ n. Scheduled n) moment moment_law (λ n. refl))
    (choose_law (tag == 3) _ _ (said_law (λ n. Retry n) moment moment_law (λ n. refl))
    (choose_law (tag == 4) _ _ (said_law (λ n. Dead n) moment moment_law (λ n. refl)) working_law)))

-- what stands behind a number of five has it
tag_of : (tag : ℕ) → (choice 1 5).Has tag → (1 ≤ tag) × (tag ≤ 5)
unfolding choice
tag_of tag has = let lies = has.1 in (grind (arith, nat_tests), grind (arith, nat_tests))

said_tag : (made : ℕ → Place) (field : Field ℕ) (v : Place) (tag : ℕ) → ((n : ℕ) → place_tag (made n) ≡ tag)
    → (part said_of field (λ n. nothing (made n))).Has v → place_tag v ≡ tag
said_tag made field v tag is has =
    let p = parted said_of field (λ n. nothing (made n)) v has in ap place_tag p.rests ∙ is p.found

working_tag : (v : Place) → working.Has v → place_tag v ≡ 5
unfolding working
working_tag (Working wid since until) has = refl
working_tag (Queued rank) has = absurd has
working_tag (Scheduled at) has = absurd has
working_tag (Retry at) has = absurd has
working_tag (Dead until) has = absurd has

place_tag_is : (tag : ℕ) (v : Place) → (1 ≤ tag) × (tag ≤ 5) → (place_behind tag).Has v → place_tag v ≡ tag
place_tag_is zero v five has = absurd (omega (arith, five.0))
place_tag_is (suc zero) v five has = said_tag (λ n. Queued n) word v 1 (λ n. refl) has
place_tag_is (suc (suc zero)) v five has = said_tag (λ n. Scheduled n) moment v 2 (λ n. refl) has
place_tag_is (suc (suc (suc zero))) v five has = said_tag (λ n. Retry n) moment v 3 (λ n. refl) has
place_tag_is (suc (suc (suc (suc zero)))) v five has = said_tag (λ n. Dead n) moment v 4 (λ n. refl) has
place_tag_is (suc (suc (suc (suc (suc zero))))) v five has = working_tag v has
place_tag_is (suc (suc (suc (suc (suc (suc tag)))))) v five has = absurd (omega (arith, five.1))

pub place_law : IsField place
unfolding place
place_law = part_law (λ (v : Place). Some (place_tag v)) (choice 1 5) place_behind (choice_law 1 5 (omega arith) (omega arith))
    (λ tag _. place_behind_law tag) (λ tag v five has. ap (λ (n : ℕ). Some n) (place_tag_is tag v (tag_of tag five) has))

pub rest_law : IsField rest
unfolding rest
rest_law =
    let others_3 = λ (enqueued : Option ℕ) (failed : Option FailureParts) (stands : Place). let made : Rest = record { enqueued = enqueued; failure = failed; place = stands } in nothing made in
    let others_2 = λ (enqueued : Option ℕ) (failed : Option FailureParts). part (λ (r : Rest). Some r.place) place (others_3 enqueued failed) in
    let others_1 = λ (enqueued : Option ℕ). part (λ (r : Rest). Some r.failure) (optional failure) (others_2 enqueued) in
    part_law (λ (r : Rest). Some r.enqueued) (optional moment) others_1 (optional_law moment moment_law)
    (λ enqueued _. part_law (λ (r : Rest). Some r.failure) (optional failure) (others_2 enqueued) (optional_law failure failure_law)
    (λ failed _. part_law (λ (r : Rest). Some r.place) place (others_3 enqueued failed) place_law
    (λ stands _. nothing_law _)
    (λ stands_ v _ has. ap (λ (r : Rest). Some r.place) has))
    (λ failed_ v _ has. ap (λ (r : Rest). Some r.failure) has.1))
    (λ enqueued_ v _ has. ap (λ (r : Rest). Some r.enqueued) has.1.1)

pub row_law : IsField row
unfolding row
row_law =
    let others_3 = λ (pushed : Job) (created : ℕ) (others : Rest). let made : Row = record { job = pushed; stamp = record { created = created; enqueued = others.enqueued; failure = others.failure }; place = others.place } in nothing made in
    let others_2 = λ (pushed : Job) (created : ℕ). part (λ (r : Row). Some (rest_of_row r)) rest (others_3 pushed created) in
    let others_1 = λ (pushed : Job). part (λ (r : Row). Some r.stamp.created) moment (others_2 pushed) in
    part_law (λ (r : Row). Some r.job) job others_1 job_law
    (λ pushed _. part_law (λ (r : Row). Some r.stamp.created) moment (others_2 pushed) moment_law
    (λ created _. part_law (λ (r : Row). Some (rest_of_row r)) rest (others_3 pushed created) rest_law
    (λ others _. nothing_law _)
    (λ others_ v _ has. ap (λ (r : Row). Some (rest_of_row r)) has))
    (λ created_ v _ has. ap (λ (r : Row). Some r.stamp.created) has.1))
    (λ pushed_ v _ has. ap (λ (r : Row). Some r.job) has.1.1)

pub added_law : IsField added
unfolding added
added_law =
    let others_2 = λ (ticket : ℕ) (new : Row). let made : Move = Add ticket new in nothing made in
    let others_1 = λ (ticket : ℕ). part row_of row (others_2 ticket) in
    part_law ticket_of word others_1 word_field
    (λ ticket _. part_law row_of row (others_2 ticket) row_law
    (λ new _. nothing_law _)
    (λ new_ v _ has. ap row_of has))
    (λ ticket_ v _ has. let p1 = parted row_of row (others_2 ticket_) v has in ap ticket_of p1.rests)

pub put_law : IsField put
unfolding put
put_law =
    let others_2 = λ (ticket : ℕ) (r : Rest). let made : Move = Put ticket r.enqueued r.failure r.place in nothing made in
    let others_1 = λ (ticket : ℕ). part rest_of_put rest (others_2 ticket) in
    part_law ticket_of word others_1 word_field
    (λ ticket _. part_law rest_of_put rest (others_2 ticket) rest_law
    (λ r _. nothing_law _)
    (λ r_ v _ has. ap rest_of_put has))
    (λ ticket_ v _ has. let p1 = parted rest_of_put rest (others_2 ticket_) v has in ap ticket_of p1.rests)

pub totals_law : IsField totals
unfolding totals
totals_law =
    let others_3 = λ (next : ℕ) (processed : ℕ) (failures : ℕ). let made : Move = Totals next processed failures in nothing made in
    let others_2 = λ (next : ℕ) (processed : ℕ). part failures_of word (others_3 next processed) in
    let others_1 = λ (next : ℕ). part processed_of word (others_2 next) in
    part_law next_of word others_1 word_field
    (λ next _. part_law processed_of word (others_2 next) word_field
    (λ processed _. part_law failures_of word (others_3 next processed) word_field
    (λ failures _. nothing_law _)
    (λ failures_ v _ has. ap failures_of has))
    (λ processed_ v _ has. let p2 = parted failures_of word (others_3 next processed_) v has in ap processed_of p2.rests))
    (λ next_ v _ has. let p1 = parted processed_of word (others_2 next_) v has in let p2 = parted failures_of word (others_3 next_ p1.found) v p1.rests in ap next_of p2.rests)

move_behind_law : (tag : ℕ) → IsField (move_behind tag)
move_behind_law tag =
    choose_law (tag == 1) _ _ added_law
    (choose_law (tag == 2) _ _ put_law
    (choose_law (tag == 3) _ _ (part_law ticket_of word (λ ticket. nothing (Drop ticket)) word_field (λ ticket _. nothing_law (Drop ticket)) (λ ticket v _ has. ap ticket_of has))
    (choose_law (tag == 4) _ _ (nothing_law DropAll) totals_law)))

added_tag : (v : Move) → added.Has v → move_tag v ≡ 1
unfolding added
added_tag v has = let p = parted ticket_of word (λ ticket. part row_of row (λ new. nothing (Add ticket new))) v has in
    let q = parted row_of row (λ new. nothing (Add p.found new)) v p.rests in ap move_tag q.rests

put_tag : (v : Move) → put.Has v → move_tag v ≡ 2
unfolding put
put_tag v has =
    let p = parted ticket_of word (λ ticket. part rest_of_put rest (λ r. nothing (Put ticket r.enqueued r.failure r.place))) v has in
    let q = parted rest_of_put rest (λ r. nothing (Put p.found r.enqueued r.failure r.place)) v p.rests in ap move_tag q.rests

drop_tag : (v : Move) → (part ticket_of word (λ ticket. nothing (Drop ticket))).Has v → move_tag v ≡ 3
drop_tag v has = let p = parted ticket_of word (λ ticket. nothing (Drop ticket)) v has in ap move_tag p.rests

totals_tag : (v : Move) → totals.Has v → move_tag v ≡ 5
unfolding totals
totals_tag (Totals next processed failures) has = refl
totals_tag (Add ticket new) has = absurd has
totals_tag (Put ticket enqueued failed stands) has = absurd has
totals_tag (Drop ticket) has = absurd has
totals_tag DropAll has = absurd has

move_tag_is : (tag : ℕ) (v : Move) → (1 ≤ tag) × (tag ≤ 5) → (move_behind tag).Has v → move_tag v ≡ tag
move_tag_is zero v five has = absurd (omega (arith, five.0))
move_tag_is (suc zero) v five has = added_tag v has
move_tag_is (suc (suc zero)) v five has = put_tag v has
move_tag_is (suc (suc (suc zero))) v five has = drop_tag v has
move_tag_is (suc (suc (suc (suc zero)))) v five has = ap move_tag has
move_tag_is (suc (suc (suc (suc (suc zero))))) v five has = totals_tag v has
move_tag_is (suc (suc (suc (suc (suc (suc tag)))))) v five has = absurd (omega (arith, five.1))

pub move_law : IsField one_move
unfolding one_move
move_law = part_law (λ (v : Move). Some (move_tag v)) (choice 1 5) move_behind (choice_law 1 5 (omega arith) (omega arith))
    (λ tag _. move_behind_law tag) (λ tag v five has. ap (λ (n : ℕ). Some n) (move_tag_is tag v (tag_of tag five) has))
