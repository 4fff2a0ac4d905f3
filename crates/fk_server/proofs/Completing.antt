-- What the status of a run says: where nothing fails it is served to its end, and damage is told exactly with 6.
use Rattle.std.proofs.Common.{◌≡◌, ◌⊎◌, ◌↔◌, ◌∙◌, refl, sym, inl, inr, ap, ℕ, ◌+◌, ◌<◌, arith, List, ◌++◌, length, length-append, Option, None, Some}
use Rattle.std.specs.Prelude.{IsSome}
use Rattle.fk_io.specs.declared.fault.Ended.{Ended}
use Rattle.fk_io.specs.declared.fault.Ended.TheVariants.{Closed, ReadFault, WriteFault, Spent, NoMemory}
use Rattle.fk_io.specs.Content.{Supply, Took}
use Rattle.fk_io.specs.Faults.{Rose, last_count}
use Rattle.fk_journal.specs.declared.fault.Damage.{Damage}
use Rattle.fk_model.specs.declared.entry.Entry.{Entry}
use Rattle.fk_model.specs.declared.gate.Gate.{Gate}
use Rattle.fk_lives.specs.Causes.{HasDiskCause}
use Rattle.fk_lives.proofs.OneDamage.{sound}
use Rattle.fk_conn.specs.Session.{IsSession, Wire, most_taken}
use Rattle.fk_server.specs.declared.words.Settings.{Settings}
use Rattle.fk_server.specs.Outside.{Outside, DisksTell, NoDiskFails}
use Rattle.fk_server.specs.Serving.{HasRefusal, IsNotOpened, IsSessionIfAny, status_of}
use Rattle.fk_server.specs.Piped.{IsPiped, NothingFails, NoReadFails, NoWriteFails}

-- ---- a session

not_rose : (before now : ℕ) → now ≡ before → before < last_count → Rose before now → ⊥
not_rose before now same below (inl rose) = absurd (omega (arith, same, rose))
not_rose before now same below (inr end) = absurd (omega (arith, same, below, end))

-- fewer bytes are taken than may be, where fewer are to come
taken_short : (taken left : List ℕ) (later : Option (List ℕ)) → Took (Some left) taken later
    → length left < most_taken → length taken ≡ most_taken → ⊥
taken_short taken left None took short all = absurd (cc)
taken_short taken left (Some rest) took short all =
    let whole : left ≡ taken ++ rest = cc in
    let sum : length left ≡ length taken + length rest = ap length whole ∙ length-append taken rest in
    absurd (omega (arith, sum, short, all))

session_ends : (gate : Gate) (ended : Ended) (history : List Entry) (old new : Wire)
    → IsSession gate ended history old new → NoReadFails old.input new.input → NoWriteFails old.out new.out
    → (status_of ended ≡ 0) ⊎ (status_of ended ≡ 8)
session_ends gate Closed history old new session reads writes = inl refl
session_ends gate ReadFault history old new (taken, items, written, serves) reads writes =
    absurd (not_rose old.input.faults new.input.faults reads.stays reads.below serves.faults.0)
session_ends gate WriteFault history old new (taken, items, written, serves) reads writes =
    absurd (not_rose old.out.faults new.out.faults writes.stays writes.below serves.faults.1)
session_ends gate Spent history old new (taken, items, written, serves) reads writes =
    absurd (taken_short taken reads.left new.input.left (sym reads.told ∙ serves.took) reads.short serves.outcome.2)
session_ends gate NoMemory history old new session reads writes = inr refl

if_any_ends : (gate : Gate) (ended : Ended) (history : List Entry) (old new : Wire)
    → IsSessionIfAny gate ended history old new → NoReadFails old.input new.input → NoWriteFails old.out new.out
    → (status_of ended ≡ 0) ⊎ (status_of ended ≡ 8)
if_any_ends gate ended history old new (inl session) reads writes =
    session_ends gate ended history old new session reads writes
if_any_ends gate ended history old new (inr begun) reads writes = inr (ap status_of begun.memory)

-- ---- opening

no_cause : (old new : Outside) → NoDiskFails old new → (Told : Type 0) → Told
    → HasDiskCause Told old.a.faults new.a.faults old.b.faults new.b.faults → ⊥
no_cause old new none Told is cause = no_rise old new none (cause.failed is)
  where
    no_rise : (old new : Outside) → NoDiskFails old new
        → Rose old.a.faults new.a.faults ⊎ Rose old.b.faults new.b.faults → ⊥
    no_rise old new none (inl rose) =
        not_rose old.a.faults new.a.faults none.a (omega (arith, none.below)) rose
    no_rise old new none (inr rose) =
        not_rose old.b.faults new.b.faults none.b (omega (arith, none.below)) rose

refused_for_memory : (status : ℕ) (damage : Option Damage) (old new : Outside) → HasRefusal status damage
    → IsNotOpened status damage old new → NothingFails old new → (status ≡ 0) ⊎ (status ≡ 8)
refused_for_memory status (Some damage) old new six refused nothing =
    absurd (sound old.a.content old.b.content nothing.kept damage nothing.stands (refused.damaged nothing.tell).0)
refused_for_memory status None old new (inl five) refused nothing =
    absurd (no_cause old new nothing.disks (status ≡ 5) five refused.cause)
refused_for_memory status None old new (inr eight) refused nothing = inr eight

-- ---- the call

pub complete : (settings : Settings) (status : ℕ) (damage : Option Damage) (moments words : Option (List ℕ))
    (old new : Outside) → IsPiped settings status damage moments words old new → NothingFails old new
    → (status ≡ 0) ⊎ (status ≡ 8)
complete settings status damage moments words old new (inl (none, (salt, later, salted, run))) nothing =
    rw run.is_status
    (if_any_ends _ run.ended run.history _ _ run.session nothing.input nothing.out)
complete settings status damage moments words old new (inr refused) nothing =
    refused_for_memory status damage old new refused.refusal refused nothing

not_six : (ended : Ended) → status_of ended ≡ 6 → ⊥
not_six Closed is = absurd (omega (arith, is))
not_six ReadFault is = absurd (omega (arith, is))
not_six WriteFault is = absurd (omega (arith, is))
not_six Spent is = absurd (omega (arith, is))
not_six NoMemory is = absurd (omega (arith, is))

six_with : (status : ℕ) (damage : Option Damage) → HasRefusal status damage → (status ≡ 6) ↔ IsSome damage
six_with status (Some damage) six = ((λ is. refl), (λ some. six))
six_with status None (inl five) = ((λ is. absurd (omega (arith, is, five))), (λ some. absurd (cc)))
six_with status None (inr eight) = ((λ is. absurd (omega (arith, is, eight))), (λ some. absurd (cc)))

pub damage_at_six : (settings : Settings) (status : ℕ) (damage : Option Damage) (moments words : Option (List ℕ))
    (old new : Outside) → IsPiped settings status damage moments words old new → (status ≡ 6) ↔ IsSome damage
damage_at_six settings status damage moments words old new (inl (none, (salt, later, salted, run))) =
    ((λ is. absurd (not_six run.ended (sym run.is_status ∙ is))), (λ some. absurd (cc)))
damage_at_six settings status damage moments words old new (inr refused) = six_with status damage refused.refusal

-- ---- no other status

not_two : (ended : Ended) → status_of ended ≡ 2 → ⊥
not_two Closed is = absurd (omega (arith, is))
not_two ReadFault is = absurd (omega (arith, is))
not_two WriteFault is = absurd (omega (arith, is))
not_two Spent is = absurd (omega (arith, is))
not_two NoMemory is = absurd (omega (arith, is))

no_refusal_two : (status : ℕ) (damage : Option Damage) → HasRefusal status damage → status ≡ 2 → ⊥
no_refusal_two status (Some damage) six is = absurd (omega (arith, is, six))
no_refusal_two status None (inl five) is = absurd (omega (arith, is, five))
no_refusal_two status None (inr eight) is = absurd (omega (arith, is, eight))

pub never_two : (settings : Settings) (status : ℕ) (damage : Option Damage) (moments words : Option (List ℕ))
    (old new : Outside) → IsPiped settings status damage moments words old new → status ≡ 2 → ⊥
never_two settings status damage moments words old new (inl (none, (salt, later, salted, run))) is =
    not_two run.ended (sym run.is_status ∙ is)
never_two settings status damage moments words old new (inr refused) is =
    no_refusal_two status damage refused.refusal is
