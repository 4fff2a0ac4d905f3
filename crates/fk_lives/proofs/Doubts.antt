-- What is in doubt behind one more entry is of an entry that was refused for a disk fault.
use Rattle.std.proofs.Common.{◌≡◌, ◌∙◌, refl, sym, ap, subst, ℕ, List, [], ◌∷◌, ◌++◌, append_assoc, inl, inr}
use Rattle.std.specs.Prelude.{Option, None, Some}
use Rattle.std.proofs.lemmas.List.{append-nil}
use Rattle.std.proofs.lemmas.List.Sums.{fold-append}
use Rattle.fk_frame.specs.declared.reply.Reply.{Reply}
use Rattle.fk_model.specs.declared.answer.Answer.{Answer}
use Rattle.fk_model.specs.declared.answer.Answer.TheVariants.{Said, NoMemory, Full, DiskFault}
use Rattle.fk_model.specs.declared.entry.Entry.{Entry}
use Rattle.fk_model.specs.declared.move_.Move.{Move}
use Rattle.fk_model.specs.State.{KeptState}
use Rattle.fk_model.specs.Between.{IsWellKept, IsBetweenTurns}
use Rattle.fk_model.specs.History.{turn_of}
use Rattle.fk_model.proofs.Turning.{turn_stays}
use Rattle.fk_lives.specs.OnDisk.{Server, left_on_disk, next_on_disk, after_on_disk, moves_of_entry, IsLegalOnDisk, KeepAll}
use Rattle.fk_lives.specs.Doubt.{IsDoubtAfter, IsDoubtOf}
use Rattle.fk_lives.proofs.AsWithout.{behind_state, fronts_keep}

-- ---- fronts

-- behind each front of a list with one entry more the same is kept, where it is so without the entry and at the end
keep_more : (server : Server) (kept : KeptState) (entries : List Entry) (entry : Entry)
    → ((front back : List Entry) → entries ≡ front ++ back → (after_on_disk server front).state.kept ≡ kept)
    → (after_on_disk server (entries ++ entry ∷ [])).state.kept ≡ kept
    → (front back : List Entry) → entries ++ entry ∷ [] ≡ front ++ back
    → (after_on_disk server front).state.kept ≡ kept
keep_more server kept entries entry keep end [] back same = keep [] entries refl
keep_more server kept [] entry keep end (first ∷ []) back same =
    let is : entry ≡ first = cc in
    subst (λ one. (next_on_disk server one).state.kept ≡ kept) is end
keep_more server kept [] entry keep end (first ∷ second ∷ front) back same = absurd (cc)
keep_more server kept (one ∷ entries) entry keep end (first ∷ front) back same =
    let is : one ≡ first = cc in
    let rest : entries ++ entry ∷ [] ≡ front ++ back = cc in
    subst (λ e. (after_on_disk (next_on_disk server e) front).state.kept ≡ kept) is
    (keep_more (next_on_disk server one) kept entries entry
    (λ some others split. keep (one ∷ some) others (ap (λ all. one ∷ all) split)) end front back rest)

-- ---- an entry that changes nothing kept

behind_one : (server : Server) (entries : List Entry) (entry : Entry)
    → after_on_disk server (entries ++ entry ∷ []) ≡ next_on_disk (after_on_disk server entries) entry
behind_one server entries entry = fold-append next_on_disk server entries (entry ∷ [])

-- the same stays in doubt
stays_in_doubt : (server : Server) (entries : List Entry) (entry : Entry) (doubt : Option (List Move))
    → (next_on_disk (after_on_disk server entries) entry).state.kept ≡ (after_on_disk server entries).state.kept
    → IsDoubtOf server entries doubt → IsDoubtOf server (entries ++ entry ∷ []) doubt
stays_in_doubt server entries entry None stays is = tt
stays_in_doubt server entries entry (Some moves) stays (refused, in_it, are) =
    let front = in_it.front in
    let back = refused ∷ in_it.back in
    let mid = after_on_disk server front in
    let here : after_on_disk server entries ≡ after_on_disk mid back =
    ap (λ all. after_on_disk server all) in_it.whole ∙ fold-append next_on_disk server front back in
    let end : (after_on_disk mid (back ++ entry ∷ [])).state.kept ≡ mid.state.kept =
    ap (λ s. s.state.kept) (behind_one mid back entry)
    ∙ subst (λ s. (next_on_disk s entry).state.kept ≡ s.state.kept) here stays
    ∙ in_it.keep back [] (sym (append-nil back)) in (
      refused,
      record {
        front = front;
        back = in_it.back ++ entry ∷ [];
        whole = ap (λ all. all ++ entry ∷ []) in_it.whole ∙ append_assoc front back (entry ∷ []);
        refused = in_it.refused;
        keep = keep_more mid mid.state.kept back entry in_it.keep end;
      },
      are,
    )

next_left : (server : Server) (entry : Entry) (answer : Answer) → entry.answer ≡ answer
    → next_on_disk server entry ≡ left_on_disk answer server entry
unfolding next_on_disk
next_left server entry answer is = ap (λ one. left_on_disk one server entry) is

-- a turn without moves leaves the kept state
said_stays : (server : Server) (entry : Entry) (reply : Reply) → IsWellKept server.state.kept
    → moves_of_entry server entry ≡ [] → (left_on_disk (Said reply) server entry).state.kept ≡ server.state.kept
said_stays server entry reply well none =
    ap (λ s. s.kept) (behind_state server (turn_of server.state entry).state (moves_of_entry server entry))
    ∙ (turn_stays server.state entry.ask entry.told.moment entry.told.word well).0 none

-- ---- one entry more

nothing_keeps : (server : Server) → KeepAll server []
nothing_keeps server [] back same = refl
nothing_keeps server (first ∷ front) back same = absurd (cc)

-- the entry's own moves are, where a disk failed in it
comes_in_doubt : (server : Server) (entries : List Entry) (entry : Entry) (moves : List Move)
    → entry.answer ≡ DiskFault → moves_of_entry (after_on_disk server entries) entry ≡ moves
    → IsDoubtOf server (entries ++ entry ∷ []) (Some moves)
comes_in_doubt server entries entry moves failed are =
    let mid = after_on_disk server entries in
    let end = ap (λ s. s.state.kept) (next_left mid entry DiskFault failed) in (
      entry,
      record {
        front = entries;
        back = [];
        whole = refl;
        refused = failed;
        keep = keep_more mid mid.state.kept [] entry (nothing_keeps mid) end;
      },
      sym are,
    )

doubt_by : (server : Server) (entries : List Entry) (entry : Entry) (answer : Answer) (moves : List Move)
    → (before after : Option (List Move)) → IsWellKept (after_on_disk server entries).state.kept
    → entry.answer ≡ answer → moves_of_entry (after_on_disk server entries) entry ≡ moves
    → IsDoubtOf server entries before → IsDoubtAfter answer moves before after
    → IsDoubtOf server (entries ++ entry ∷ []) after
doubt_by server entries entry (Said reply) [] before after well answered are is same =
    let mid = after_on_disk server entries in
    let stays = ap (λ s. s.state.kept) (next_left mid entry (Said reply) answered)
    ∙ said_stays mid entry reply well are in
    rw same (stays_in_doubt server entries entry before stays is)
doubt_by server entries entry (Said reply) (move ∷ moves) before after well answered are is none = rw none tt
doubt_by server entries entry NoMemory moves before after well answered are is same =
    let stays = ap (λ s. s.state.kept) (next_left (after_on_disk server entries) entry NoMemory answered) in
    rw same (stays_in_doubt server entries entry before stays is)
doubt_by server entries entry Full moves before after well answered are is same =
    let stays = ap (λ s. s.state.kept) (next_left (after_on_disk server entries) entry Full answered) in
    rw same (stays_in_doubt server entries entry before stays is)
doubt_by server entries entry DiskFault moves before after well answered are is (inl same) =
    let stays = ap (λ s. s.state.kept) (next_left (after_on_disk server entries) entry DiskFault answered) in
    rw same (stays_in_doubt server entries entry before stays is)
doubt_by server entries entry DiskFault moves before after well answered are is (inr (inl none)) = rw none tt
doubt_by server entries entry DiskFault moves before after well answered are is (inr (inr some)) =
    rw some (comes_in_doubt server entries entry moves answered are)

-- what is in doubt behind a turn
pub doubt_of_refused : (server : Server) (faults : ℕ) (entries : List Entry) (entry : Entry)
    → (before after : Option (List Move)) → IsBetweenTurns server.state
    → IsLegalOnDisk server faults (entries ++ entry ∷ []) → IsDoubtOf server entries before
    → IsDoubtAfter entry.answer (moves_of_entry (after_on_disk server entries) entry) before after
    → IsDoubtOf server (entries ++ entry ∷ []) after
doubt_of_refused server faults entries entry before after ready legal is becomes =
    let ready_here = fronts_keep server faults entries (entry ∷ []) ready legal in
    doubt_by server entries entry entry.answer (moves_of_entry (after_on_disk server entries) entry) before after
    ready_here.kept refl refl is becomes
