-- Where no call of a disk failed, no turn was refused for one, and nothing is in doubt.
use Rattle.std.proofs.Common.{◌≡◌, ◌≢◌, ◌⊎◌, ◌∙◌, refl, sym, inl, inr, ℕ, ◌≤◌, ◌<◌, arith, List, [], ◌∷◌}
use Rattle.std.specs.Prelude.{All, Option, None, Some}
use Rattle.std.proofs.lemmas.List.Elements.{All-nil, All-cons, All-head, All-tail}
use Rattle.fk_model.specs.declared.answer.Answer.{Answer}
use Rattle.fk_model.specs.declared.answer.Answer.TheVariants.{Said, NoMemory, Full, DiskFault}
use Rattle.fk_model.specs.declared.entry.Entry.{Entry}
use Rattle.fk_model.specs.declared.move_.Move.{Move}
use Rattle.fk_model.specs.History.{faults_after}
use Rattle.fk_model.specs.Limits.{greatest_count}
use Rattle.fk_lives.specs.Doubt.{IsDoubtAfter}
use Rattle.fk_lives.specs.OnDisk.{Server, HasRisen, IsLegalOnDisk, IsRightOnDisk, moves_of_entry, next_on_disk}
use Rattle.fk_lives.specs.Ways.{Disks}
use Rattle.fk_conn.specs.Turning.{TurnsGoOn}

-- ---- answers

-- the counts of a legal history never fall
risen : (server : Server) (faults : ℕ) (entries : List Entry) → IsLegalOnDisk server faults entries
    → faults ≤ faults_after faults entries
unfolding IsLegalOnDisk
risen server faults [] legal = omega arith
risen server faults (entry ∷ entries) (step, before, rest) =
    omega (arith, before, step.told.faults, risen (next_on_disk server entry) entry.told.after entries rest)

-- a count that stays hasn't risen, below its end
stays : (before after : ℕ) → after ≡ before → after < greatest_count → HasRisen before after → ⊥
stays before after same below (inl rose) = absurd (omega (arith, same, rose))
stays before after same below (inr end) = absurd (omega (arith, below, end))

not_refused : (server : Server) (entry : Entry) (answer : Answer) → IsRightOnDisk server entry answer
    → entry.told.after ≡ entry.told.before → entry.told.after < greatest_count → answer ≢ DiskFault
not_refused server entry (Said reply) right same below = λ is. absurd (cc)
not_refused server entry NoMemory right same below = λ is. absurd (cc)
not_refused server entry Full right same below = λ is. absurd (cc)
not_refused server entry DiskFault right same below = λ is.
    stays entry.told.before entry.told.after same below right.2

pub no_refusals : (server : Server) (faults : ℕ) (entries : List Entry) → IsLegalOnDisk server faults entries
    → faults_after faults entries ≡ faults → faults < greatest_count → All (λ entry. entry.answer ≢ DiskFault) entries
unfolding IsLegalOnDisk
no_refusals server faults [] legal same below = All-nil (λ entry. entry.answer ≢ DiskFault)
no_refusals server faults (entry ∷ entries) (step, before, rest) same below =
    let next = next_on_disk server entry in
    let on : entry.told.after ≤ faults_after entry.told.after entries = risen next entry.told.after entries rest in
    let after : entry.told.after ≡ faults = omega (arith, before, step.told.faults, on, same) in
    All-cons (λ one. one.answer ≢ DiskFault) entry entries
    (not_refused server entry entry.answer step.answer (omega (arith, before, step.told.faults, after))
    (omega (arith, after, below)))
    (no_refusals next entry.told.after entries rest (same ∙ sym after) (omega (arith, after, below)))

-- ---- doubt

none_after : (answer : Answer) (moves : List Move) (before after : Option (List Move))
    → IsDoubtAfter answer moves before after → before ≡ None → answer ≢ DiskFault → after ≡ None
none_after (Said reply) [] before after is none other = is ∙ none
none_after (Said reply) (move ∷ moves) before after is none other = is
none_after NoMemory moves before after is none other = is ∙ none
none_after Full moves before after is none other = is ∙ none
none_after DiskFault moves before after is none other = absurd (other refl)

pub none_in_doubt : (server : Server) (doubt : Option (List Move)) (entries : List Entry) (at_a at_b : ℕ) (now : Disks)
    (last : Option (List Move)) → doubt ≡ None → All (λ entry. entry.answer ≢ DiskFault) entries
    → TurnsGoOn server doubt entries at_a at_b now last → last ≡ None
unfolding TurnsGoOn
none_in_doubt server doubt [] at_a at_b now last none all (same_a, same_b, same) = same ∙ none
none_in_doubt server doubt (entry ∷ entries) at_a at_b now last none all (one, on) =
    none_in_doubt (next_on_disk server entry) one.later entries one.mid_a one.mid_b now last
    (none_after entry.answer (moves_of_entry server entry) doubt one.later one.doubted none
    (All-head (λ e. e.answer ≢ DiskFault) entry entries all))
    (All-tail (λ e. e.answer ≢ DiskFault) entry entries all) on
