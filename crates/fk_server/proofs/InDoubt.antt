-- What is in doubt at the end of a session is of an entry of its history.
use Rattle.std.proofs.Common.{◌≡◌, ◌∙◌, ℕ, List, [], ◌∷◌, ◌++◌, append_assoc, refl, sym, subst}
use Rattle.std.specs.Prelude.{Option, None}
use Rattle.std.proofs.lemmas.List.{append-nil}
use Rattle.std.proofs.lemmas.List.Sums.{fold-append}
use Rattle.fk_model.specs.declared.entry.Entry.{Entry}
use Rattle.fk_model.specs.declared.move_.Move.{Move}
use Rattle.fk_model.specs.Between.{IsBetweenTurns}
use Rattle.fk_lives.specs.Doubt.{IsDoubtOf}
use Rattle.fk_lives.specs.OnDisk.{Server, after_on_disk, next_on_disk, IsLegalOnDisk}
use Rattle.fk_lives.specs.Ways.{Disks}
use Rattle.fk_lives.proofs.AsWithout.{on_disk_goes_on}
use Rattle.fk_lives.proofs.Doubts.{doubt_of_refused}
use Rattle.fk_conn.specs.Turning.{TurnsGoOn}

module _ (server : Server) (faults : ℕ) (entries : List Entry)
    (between : IsBetweenTurns server.state) (legal : IsLegalOnDisk server faults entries) (now : Disks)
    (last : Option (List Move)) where
  legal_up_to : (front back : List Entry) (entry : Entry) → entries ≡ front ++ entry ∷ back
      → IsLegalOnDisk server faults (front ++ entry ∷ [])
  legal_up_to front back entry whole =
      let all : entries ≡ (front ++ entry ∷ []) ++ back = whole ∙ sym (append_assoc front (entry ∷ []) back) in
      ((on_disk_goes_on server faults (front ++ entry ∷ []) back).0
      (subst (λ list. IsLegalOnDisk server faults list) all legal)).0

  doubt_from : (front back : List Entry) (at_a at_b : ℕ) (doubt : Option (List Move)) → entries ≡ front ++ back
      → IsDoubtOf server front doubt → TurnsGoOn (after_on_disk server front) doubt back at_a at_b now last
      → IsDoubtOf server entries last
  unfolding TurnsGoOn
  doubt_from front [] at_a at_b doubt whole is (same_a, same_b, same) =
      subst (λ one. IsDoubtOf server entries one) (sym same)
      (subst (λ all. IsDoubtOf server all doubt) (sym (whole ∙ append-nil front)) is)
  doubt_from front (entry ∷ back) at_a at_b doubt whole is (one, on) =
      let next : next_on_disk (after_on_disk server front) entry ≡ after_on_disk server (front ++ entry ∷ []) =
      sym (fold-append next_on_disk server front (entry ∷ [])) in
      doubt_from (front ++ entry ∷ []) back one.mid_a one.mid_b one.later
      (whole ∙ sym (append_assoc front (entry ∷ []) back))
      (doubt_of_refused server faults front entry doubt one.later between (legal_up_to front back entry whole) is
      one.doubted)
      (subst (λ s. TurnsGoOn s one.later back one.mid_a one.mid_b now last) next on)

  -- nothing is in doubt where the server was opened
  pub doubt_at_end : (at_a at_b : ℕ) → TurnsGoOn server None entries at_a at_b now last → IsDoubtOf server entries last
  doubt_at_end at_a at_b on = doubt_from [] entries at_a at_b None refl tt on
