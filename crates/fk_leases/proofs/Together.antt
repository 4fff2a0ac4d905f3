-- The leases by jid and those by moment stay the same leases.
use Rattle.std.proofs.Common.{◌≡◌, ◌∙◌, ℕ, ◌≤◌, List, [], ◌∷◌, sym, ap, subst, arith}
use Rattle.std.specs.Prelude.{count_by}
use Rattle.std.proofs.lemmas.List.Elements.{All-nil}
use Rattle.fk_tree.specs.Order.{IsRising}
use Rattle.fk_tree.specs.Room as tree
use Rattle.fk_lists.specs.Room.{Room, AreNamed}
use Rattle.fk_lists.proofs.Renewed.{rising_none}
use Rattle.fk_leases.specs.Leases.{AreByTicket}
use Rattle.fk_leases.specs.Ends.{end_of, ends_of, is_pair, HaveRoom, HaveSame, IsAmong, IsSound}
use Rattle.fk_leases.proofs.Alike.{count_first, itself, one_if}

-- no lease is there
pub sound_empty : (leases : Room) (ends : tree.Room) (rooms : ℕ) → leases.items ≡ [] → ends.items ≡ []
    → HaveRoom leases.spares rooms → rooms ≤ ends.spare → IsSound leases ends rooms
sound_empty leases ends rooms none gone have enough = record {
  by_ticket = rising_none leases.items none;
  named = subst AreNamed (sym none)
      (record { by_name = λ i j d ahead within. absurd (omega (arith, within)); filled = All-nil _ });
  rising = subst IsRising (sym gone) tt;
  same = λ test. ap (count_by test) gone ∙ ap (λ items. count_by test (ends_of items)) (sym none);
  room = have;
  spare = enough;
}

module _ (before after : Room) (ends later : tree.Room) (was is : ℕ)
    (sound : IsSound before ends was) (have : HaveRoom after.spares is) (enough : is ≤ later.spare) where
  -- no lease came or went
  pub still_sound : after.items ≡ before.items → later.items ≡ ends.items → IsSound after later is
  still_sound same_leases same_ends = record {
    by_ticket = subst AreByTicket (sym same_leases) sound.by_ticket;
    named = subst AreNamed (sym same_leases) sound.named;
    rising = subst IsRising (sym same_ends) sound.rising;
    same = λ test. ap (count_by test) same_ends ∙ sound.same test
        ∙ ap (λ items. count_by test (ends_of items)) (sym same_leases);
    room = have;
    spare = enough;
  }

  module _ (lease : ℕ × ℕ) (by_ticket : AreByTicket after.items) (named : AreNamed after.items)
      (rising : IsRising later.items) where
    -- a lease was put
    pub sound_with : HaveSame (ends_of after.items) (end_of lease ∷ ends_of before.items)
        → HaveSame later.items (end_of lease ∷ ends.items) → IsSound after later is
    sound_with more entered = record {
      by_ticket = by_ticket;
      named = named;
      rising = rising;
      same = λ test.
          let one = count_first test (end_of lease) ends.items in
          let other = count_first test (end_of lease) (ends_of before.items) in
          omega (arith, entered test, more test, sound.same test, one, other);
      room = have;
      spare = enough;
    }

    among : (ends : List (ℕ × ℕ)) (rest : List (ℕ × ℕ)) → HaveSame ends (end_of lease ∷ rest) → IsAmong (end_of lease) ends
    among ends rest same =
        let first = count_first (is_pair (end_of lease)) (end_of lease) rest in
        let one = ap one_if (itself (end_of lease)) in
        omega (arith, same (is_pair (end_of lease)), first, one)

    -- a lease was taken
    pub sound_without : HaveSame (ends_of before.items) (end_of lease ∷ ends_of after.items)
        → (IsAmong (end_of lease) ends.items → HaveSame ends.items (end_of lease ∷ later.items))
        → IsSound after later is
    sound_without less left = record {
      by_ticket = by_ticket;
      named = named;
      rising = rising;
      same = λ test.
          let there = left (among ends.items (ends_of after.items) (λ one. sound.same one ∙ less one)) in
          let one = count_first test (end_of lease) later.items in
          let other = count_first test (end_of lease) (ends_of after.items) in
          omega (arith, there test, less test, sound.same test, one, other);
      room = have;
      spare = enough;
    }
