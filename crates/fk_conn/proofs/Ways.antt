-- The ways of turns over two disks, as they are told by what a crash may leave later on.
use Rattle.std.proofs.Common.{ℕ, ◌≤◌, arith, refl, inl, inr, List, [], ◌∷◌, ◌++◌}
use Rattle.std.specs.Prelude.{Option}
use Rattle.fk_model.specs.declared.entry.Entry.{Entry}
use Rattle.fk_model.specs.declared.move_.Move.{Move}
use Rattle.fk_model.specs.State.{KeptState}
use Rattle.fk_lives.specs.Doubt.{IsDoubtAfter, IsSound, StandsWithDoubt}
use Rattle.fk_lives.specs.OnDisk.{Server, after_on_disk, moves_of_entry, next_on_disk}
use Rattle.fk_lives.specs.Ways.{Disks, KeepPast}
use Rattle.fk_lives.proofs.Roads.{onward_a, onward_b, way_later}
use Rattle.fk_desk.specs.Keeping.{CallsNoDisk, StandStill, StandsWithOrWithout, TurnGoesOn}
use Rattle.fk_conn.specs.Turning.{TurnsGoOn, at_moments}

-- ---- one turn

-- the same images are told
same_past : (at_a at_b mid_a mid_b : ℕ) (now : Disks) → KeepPast (at_moments at_a at_b now) (at_moments mid_a mid_b now)
same_past at_a at_b mid_a mid_b now =
    record { a = λ at image early. ((λ is. is), (λ is. is)); b = λ at image early. ((λ is. is), (λ is. is)) }

-- the moments of a turn
pub record IsOnward (at_a at_b mid_a mid_b : ℕ) : Type 0 where
  pub a : at_a ≤ mid_a
  pub b : at_b ≤ mid_b

turn_onward : (kept : KeptState) (doubt : Option (List Move)) (moves : List Move) (now : Disks)
    (at_a at_b mid_a mid_b : ℕ)
    → TurnGoesOn kept doubt moves (at_moments at_a at_b now) (at_moments mid_a mid_b now)
    → IsOnward at_a at_b mid_a mid_b
turn_onward kept doubt moves now at_a at_b mid_a mid_b (inl on) = record {
  a = onward_a (StandsWithDoubt kept doubt) now at_a at_b mid_a mid_b on.way;
  b = onward_b (StandsWithDoubt kept doubt) now at_a at_b mid_a mid_b on.way;
}
turn_onward kept doubt moves now at_a at_b mid_a mid_b (inr on) =
    let first = StandsWithDoubt kept doubt in
    let later = StandsWithOrWithout kept moves in
    record {
      a = omega (
        arith,
        onward_a first now at_a at_b on.settled_a on.settled_b on.first,
        onward_a later now on.settled_a on.settled_b mid_a mid_b on.later,
      );
      b = omega (
        arith,
        onward_b first now at_a at_b on.settled_a on.settled_b on.first,
        onward_b later now on.settled_a on.settled_b mid_a mid_b on.later,
      );
    }

-- a turn up to now is told afterwards
turn_later : (kept : KeptState) (doubt : Option (List Move)) (moves : List Move) (now after : Disks)
    (at_a at_b mid_a mid_b : ℕ) → mid_a ≤ now.at_a → mid_b ≤ now.at_b → KeepPast now after
    → TurnGoesOn kept doubt moves (at_moments at_a at_b now) (at_moments mid_a mid_b now)
    → TurnGoesOn kept doubt moves (at_moments at_a at_b after) (at_moments mid_a mid_b after)
turn_later kept doubt moves now after at_a at_b mid_a mid_b on_a on_b past (inl on) = inl (record {
  past = same_past at_a at_b mid_a mid_b after;
  way = way_later (StandsWithDoubt kept doubt) now after at_a at_b mid_a mid_b on_a on_b past on.way;
})
turn_later kept doubt moves now after at_a at_b mid_a mid_b on_a on_b past (inr on) =
    let later = StandsWithOrWithout kept moves in
    let low_a : on.settled_a ≤ now.at_a =
    omega (arith, on_a, onward_a later now on.settled_a on.settled_b mid_a mid_b on.later) in
    let low_b : on.settled_b ≤ now.at_b =
    omega (arith, on_b, onward_b later now on.settled_a on.settled_b mid_a mid_b on.later) in
    inr (record {
      past = same_past at_a at_b mid_a mid_b after;
      settled_a = on.settled_a;
      settled_b = on.settled_b;
      first = way_later (StandsWithDoubt kept doubt) now after at_a at_b on.settled_a on.settled_b low_a low_b past
          on.first;
      later = way_later later now after on.settled_a on.settled_b mid_a mid_b on_a on_b past on.later;
    })

-- a turn that a call made is told by what it left
pub turn_since : (kept : KeptState) (doubt : Option (List Move)) (moves : List Move) (before after : Disks)
    → TurnGoesOn kept doubt moves before after
    → TurnGoesOn kept doubt moves (at_moments before.at_a before.at_b after) (at_moments after.at_a after.at_b after)
turn_since kept doubt moves before after (inl on) =
    inl (record { past = same_past before.at_a before.at_b after.at_a after.at_b after; way = on.way })
turn_since kept doubt moves before after (inr on) = inr (record {
  past = same_past before.at_a before.at_b after.at_a after.at_b after;
  settled_a = on.settled_a;
  settled_b = on.settled_b;
  first = on.first;
  later = on.later;
})

pub turn_keeps_past : (kept : KeptState) (doubt : Option (List Move)) (moves : List Move) (before after : Disks)
    → TurnGoesOn kept doubt moves before after → KeepPast before after
turn_keeps_past kept doubt moves before after (inl on) = on.past
turn_keeps_past kept doubt moves before after (inr on) = on.past

-- ---- turns

-- no moment falls
pub onward : (server : Server) (doubt : Option (List Move)) (entries : List Entry) (at_a at_b : ℕ) (now : Disks)
    (last : Option (List Move)) → TurnsGoOn server doubt entries at_a at_b now last
    → IsOnward at_a at_b now.at_a now.at_b
unfolding TurnsGoOn
onward server doubt [] at_a at_b now last on = record { a = omega (arith, on.0); b = omega (arith, on.1) }
onward server doubt (entry ∷ entries) at_a at_b now last (one, on) =
    let first = turn_onward server.state.kept doubt (moves_of_entry server entry) now at_a at_b one.mid_a one.mid_b
    one.way in
    let rest = onward (next_on_disk server entry) one.later entries one.mid_a one.mid_b now last on in
    record { a = omega (arith, first.a, rest.a); b = omega (arith, first.b, rest.b) }

-- turns went on, and then more
pub goes_both : (server : Server) (doubt : Option (List Move)) (xs ys : List Entry) (at_a at_b : ℕ) (mid now : Disks)
    (between last : Option (List Move)) → KeepPast mid now → TurnsGoOn server doubt xs at_a at_b mid between
    → TurnsGoOn (after_on_disk server xs) between ys mid.at_a mid.at_b now last
    → TurnsGoOn server doubt (xs ++ ys) at_a at_b now last
unfolding TurnsGoOn
goes_both server doubt [] ys at_a at_b mid now between last past (same_a, same_b, same) second =
    rw (same_a, same_b, ← same) second
goes_both server doubt (entry ∷ xs) ys at_a at_b mid now between last past (one, on) second =
    let next = next_on_disk server entry in
    let moves = moves_of_entry server entry in
    let rest = onward next one.later xs one.mid_a one.mid_b mid between on in (
      record {
        mid_a = one.mid_a;
        mid_b = one.mid_b;
        later = one.later;
        way = turn_later server.state.kept doubt moves mid now at_a at_b one.mid_a one.mid_b rest.a rest.b past
            one.way;
        doubted = one.doubted;
        sound = λ a b here there.
            one.sound a b ((past.a one.mid_a a rest.a).0 here) ((past.b one.mid_b b rest.b).0 there);
        still = one.still;
      },
      goes_both next one.later xs ys one.mid_a one.mid_b mid now between last past on second,
    )

-- one turn went on
pub goes_once : (server : Server) (doubt later : Option (List Move)) (entry : Entry) (before after : Disks)
    → TurnGoesOn server.state.kept doubt (moves_of_entry server entry) before after
    → IsDoubtAfter entry.answer (moves_of_entry server entry) doubt later
    → IsSound (next_on_disk server entry).state.kept later (after.images_a after.at_a) (after.images_b after.at_b)
    → (CallsNoDisk entry.answer (moves_of_entry server entry) → StandStill before after)
    → TurnsGoOn server doubt (entry ∷ []) before.at_a before.at_b after later
unfolding TurnsGoOn
goes_once server doubt later entry before after way doubted sound still = (
  record {
    mid_a = after.at_a;
    mid_b = after.at_b;
    later = later;
    way = turn_since server.state.kept doubt (moves_of_entry server entry) before after way;
    doubted = doubted;
    sound = sound;
    still = λ none. ((still none).at_a, (still none).at_b);
  },
  (refl, refl, refl),
)
