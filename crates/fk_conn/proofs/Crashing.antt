-- Within a session each pair of images stands for what a front of its history left, maybe with one command more.
use Rattle.std.proofs.Common.{◌≡◌, ◌∙◌, ℕ, List, [], ◌∷◌, ◌++◌, append_assoc, refl, sym, subst, inl, inr}
use Rattle.std.specs.Prelude.{Option, None}
use Rattle.std.proofs.lemmas.List.Sums.{fold-append}
use Rattle.fk_model.specs.declared.answer.Answer.{Answer}
use Rattle.fk_model.specs.declared.answer.Answer.TheVariants.{Said, NoMemory, Full, DiskFault}
use Rattle.fk_model.specs.declared.entry.Entry.{Entry}
use Rattle.fk_model.specs.declared.move_.Move.{Move}
use Rattle.fk_model.specs.Between.{IsBetweenTurns}
use Rattle.fk_lives.specs.Crashes.{MayReach}
use Rattle.fk_lives.specs.Doubt.{IsDoubtOf, IsSound, StandsWithDoubt}
use Rattle.fk_lives.specs.OnDisk.{Server, after_on_disk, moves_of_entry, next_on_disk, IsLegalOnDisk}
use Rattle.fk_lives.specs.Ways.{Disks, HoldsBetween}
use Rattle.fk_lives.proofs.AsWithout.{on_disk_goes_on}
use Rattle.fk_lives.proofs.Doubts.{doubt_of_refused}
use Rattle.fk_lives.proofs.Roads.{way_joins, way_less, way_stays}
use Rattle.fk_desk.specs.Keeping.{StandsWithOrWithout, TurnGoesOn}
use Rattle.fk_conn.specs.Turning.{OneGoesOn, TurnsGoOn, at_moments}
use Rattle.fk_conn.specs.Crashing.{StandsAmid}

-- ---- one turn

module _ (server : Server) (entries front : List Entry) (entry : Entry) (back : List Entry)
    (whole : entries ≡ front ++ entry ∷ back) (doubt : Option (List Move)) (is : IsDoubtOf server front doubt) where
  behind : (a b : List ℕ) → StandsWithDoubt (after_on_disk server front).state.kept doubt a b
      → StandsAmid server entries a b
  behind a b stands =
      record { front = front; back = entry ∷ back; whole = whole; stands = inl (doubt, is, stands) }

  -- with or without its moves, where they may be on the disk
  with_or_without : MayReach entry.answer → (a b : List ℕ)
      → StandsWithOrWithout (after_on_disk server front).state.kept
      (moves_of_entry (after_on_disk server front) entry) a b
      → StandsAmid server entries a b
  with_or_without may a b (inl stands) =
      record { front = front; back = entry ∷ back; whole = whole; stands = inl (None, tt, stands) }
  with_or_without may a b (inr stands) =
      record { front = front; back = entry ∷ back; whole = whole; stands = inr (may, stands) }

  reaches : MayReach entry.answer → (at_a at_b mid_a mid_b : ℕ) (now : Disks)
      → TurnGoesOn (after_on_disk server front).state.kept doubt (moves_of_entry (after_on_disk server front) entry)
      (at_moments at_a at_b now) (at_moments mid_a mid_b now)
      → HoldsBetween (StandsAmid server entries) now at_a at_b mid_a mid_b
  reaches may at_a at_b mid_a mid_b now (inl on) =
      way_less (StandsWithDoubt (after_on_disk server front).state.kept doubt) (StandsAmid server entries) now
      at_a at_b mid_a mid_b behind on.way
  reaches may at_a at_b mid_a mid_b now (inr on) =
      let mid = after_on_disk server front in
      let Amid = StandsAmid server entries in
      way_joins Amid now at_a at_b on.settled_a on.settled_b mid_a mid_b
      (way_less (StandsWithDoubt mid.state.kept doubt) Amid now at_a at_b on.settled_a on.settled_b behind on.first)
      (way_less (StandsWithOrWithout mid.state.kept (moves_of_entry mid entry)) Amid now on.settled_a on.settled_b
      mid_a mid_b (with_or_without may) on.later)

  -- it calls no disk, or may have reached them
  turn_amid : (answer : Answer) → entry.answer ≡ answer → (at_a at_b : ℕ) (now : Disks)
      → IsSound (after_on_disk server front).state.kept doubt (now.images_a at_a) (now.images_b at_b)
      → (one : OneGoesOn (after_on_disk server front) doubt entry at_a at_b now)
      → HoldsBetween (StandsAmid server entries) now at_a at_b one.mid_a one.mid_b
  turn_amid (Said reply) answered at_a at_b now sound one =
      reaches (inl (reply, answered)) at_a at_b one.mid_a one.mid_b now one.way
  turn_amid DiskFault answered at_a at_b now sound one =
      reaches (inr answered) at_a at_b one.mid_a one.mid_b now one.way
  turn_amid NoMemory answered at_a at_b now sound one =
      let same = one.still (rw answered tt) in
      way_stays (StandsAmid server entries) now at_a at_b one.mid_a one.mid_b same.0 same.1
      (λ a b here there. behind a b (sound a b here there))
  turn_amid Full answered at_a at_b now sound one =
      let same = one.still (rw answered tt) in
      way_stays (StandsAmid server entries) now at_a at_b one.mid_a one.mid_b same.0 same.1
      (λ a b here there. behind a b (sound a b here there))

-- ---- a history

module _ (server : Server) (faults : ℕ) (entries : List Entry) (between : IsBetweenTurns server.state)
    (legal : IsLegalOnDisk server faults entries) (now : Disks) (last : Option (List Move)) where
  legal_front : (front back : List Entry) (entry : Entry) → entries ≡ front ++ entry ∷ back
      → IsLegalOnDisk server faults (front ++ entry ∷ [])
  legal_front front back entry whole =
      let all : entries ≡ (front ++ entry ∷ []) ++ back = whole ∙ sym (append_assoc front (entry ∷ []) back) in
      ((on_disk_goes_on server faults (front ++ entry ∷ []) back).0
      (subst (λ list. IsLegalOnDisk server faults list) all legal)).0

  amid_from : (front back : List Entry) (at_a at_b : ℕ) (doubt : Option (List Move)) → entries ≡ front ++ back
      → IsDoubtOf server front doubt
      → IsSound (after_on_disk server front).state.kept doubt (now.images_a at_a) (now.images_b at_b)
      → TurnsGoOn (after_on_disk server front) doubt back at_a at_b now last
      → HoldsBetween (StandsAmid server entries) now at_a at_b now.at_a now.at_b
  unfolding TurnsGoOn
  amid_from front [] at_a at_b doubt whole is sound (same_a, same_b, same) =
      way_stays (StandsAmid server entries) now at_a at_b now.at_a now.at_b (sym same_a) (sym same_b)
      (λ a b here there.
      record { front = front; back = []; whole = whole; stands = inl (doubt, is, sound a b here there) })
  amid_from front (entry ∷ back) at_a at_b doubt whole is sound (one, on) =
      let mid = after_on_disk server front in
      let next : next_on_disk mid entry ≡ after_on_disk server (front ++ entry ∷ []) =
      sym (fold-append next_on_disk server front (entry ∷ [])) in
      way_joins (StandsAmid server entries) now at_a at_b one.mid_a one.mid_b now.at_a now.at_b
      (turn_amid server entries front entry back whole doubt is entry.answer refl at_a at_b now sound one)
      (amid_from (front ++ entry ∷ []) back one.mid_a one.mid_b one.later
      (whole ∙ sym (append_assoc front (entry ∷ []) back))
      (doubt_of_refused server faults front entry doubt one.later between (legal_front front back entry whole) is
      one.doubted)
      (subst (λ s. IsSound s.state.kept one.later (now.images_a one.mid_a) (now.images_b one.mid_b)) next one.sound)
      (subst (λ s. TurnsGoOn s one.later back one.mid_a one.mid_b now last) next on))

  -- from the start of a session, at which nothing is in doubt
  pub stands_amid : (at_a at_b : ℕ) → IsSound server.state.kept None (now.images_a at_a) (now.images_b at_b)
      → TurnsGoOn server None entries at_a at_b now last
      → HoldsBetween (StandsAmid server entries) now at_a at_b now.at_a now.at_b
  stands_amid at_a at_b sound on = amid_from [] entries at_a at_b None refl tt sound on
