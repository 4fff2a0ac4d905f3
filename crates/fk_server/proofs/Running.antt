-- One run, put together of what opening, the session and closing say.
use Rattle.std.proofs.Common.{◌≡◌, ◌≢◌, refl, sym, subst, inl, inr, arith, ℕ, ◌+◌, ◌<◌, ◌≤◌, List, []}
use Rattle.std.specs.Prelude.{All, IfSome, IsTrue, Option, None, Some}
use Rattle.fk_journal.specs.declared.fault.Damage.{Damage}
use Rattle.fk_model.specs.declared.answer.Answer.TheVariants.{DiskFault}
use Rattle.fk_model.specs.declared.gate.Gate.{Gate}
use Rattle.fk_model.specs.History.{faults_after}
use Rattle.fk_model.specs.Limits.{greatest_count}
use Rattle.fk_model.specs.State.{KeptState}
use Rattle.fk_lives.specs.Causes.{HasDiskCause}
use Rattle.fk_lives.specs.Doubt.{IsSound}
use Rattle.fk_lives.specs.OnDisk.{Server}
use Rattle.fk_lives.specs.Ways.{Disks, EachPair, GoOn}
use Rattle.fk_shelf.specs.Opening.{KeepFiles, StandsForOne}
use Rattle.fk_lives.proofs.Roads.{goes_nowhere}
use Rattle.fk_conn.specs.Session.{wire}
use Rattle.fk_conn.specs.Turning.{keeping}
use Rattle.fk_conn.proofs.Crashing.{stands_amid}
use Rattle.fk_server.specs.Outside.{DisksTell, NoDiskFails, Outside, StandFor, disks_at}
use Rattle.fk_server.specs.Serving.{HasRefusal, IsDamageTold, IsNotOpened, IsRun, LeavesBehind, OpenedServer, OpensOn, ServesFrom}
use Rattle.fk_server.proofs.InDoubt.{doubt_at_end}
use Rattle.fk_server.proofs.Lasting.{sound_later, way_up_to}
use Rattle.fk_server.proofs.Living.{back_lives, crash_lives, lives_through, run_lives}
use Rattle.fk_server.proofs.Refusals.{no_refusals, none_in_doubt}

-- what was opened, where the disks had come to these moments
abbrev opened_at : Disks → Server → ℕ → ℕ → OpenedServer
opened_at start server faults_a faults_b = record {
  server = server;
  at_a = start.at_a;
  at_b = start.at_b;
  faults_a = faults_a;
  faults_b = faults_b;
}

-- what opening says
pub record Opens (old : Outside) (start : Disks) (server : Server) (faults_a faults_b : ℕ) : Type 0 where
  pub stands : DisksTell old → StandFor old server
  pub alone : server.state.workers ≡ []
  pub later_a : old.a.faults ≤ faults_a
  pub later_b : old.b.faults ≤ faults_b
  pub crash : (kept other : KeptState)
      → EachPair (StandsForOne kept other) (old.a.images old.a.moment) (old.b.images old.b.moment)
      → GoOn (StandsForOne kept other) (disks_at old) start
  pub sound : IsSound server.state.kept None (start.images_a start.at_a) (start.images_b start.at_b)

module _ (gate : Gate) (status : ℕ) (moments words : Option (List ℕ)) (old new : Outside) (start : Disks)
    (server : Server) (faults_a faults_b : ℕ) (opens : Opens old start server faults_a faults_b)
    (serves : ServesFrom gate status (keeping server None moments words faults_a faults_b start)
    (wire old.input old.out) new)
    (tell : DisksTell old → DisksTell new) where
  opens_on : OpensOn old new (opened_at start server faults_a faults_b)
  opens_on = record {
    stands = opens.stands;
    alone = opens.alone;
    later_a = opens.later_a;
    later_b = opens.later_b;
    crash = λ kept other each.
        way_up_to (StandsForOne kept other) (disks_at old) start (disks_at new) (opens.crash kept other each)
        serves.turned.past;
    lives = lives_through old new start (λ kept each.
        way_up_to (StandsForOne kept kept) (disks_at old) start (disks_at new) (opens.crash kept kept each) serves.turned.past);
    sound = sound_later server.state.kept None start (disks_at new) serves.turned.past opens.sound;
  }

  calm : NoDiskFails old new → All (λ entry. entry.answer ≢ DiskFault) serves.history × (serves.doubt ≡ None)
  calm none =
      let same : faults_after (faults_a + faults_b) serves.history ≡ faults_a + faults_b =
      omega (
        arith,
        serves.turned.counted,
        none.a,
        none.b,
        opens.later_a,
        opens.later_b,
        serves.turned.later_a,
        serves.turned.later_b,
      ) in
      let below : faults_a + faults_b < greatest_count =
      omega (arith, none.a, none.b, none.below, serves.turned.later_a, serves.turned.later_b, opens.later_a, opens.later_b) in
      let all = no_refusals server (faults_a + faults_b) serves.history serves.turned.legal same below in
      (all, none_in_doubt server None serves.history start.at_a start.at_b (disks_at new) serves.doubt refl all serves.turned.crash)

  leaves : LeavesBehind old new (opened_at start server faults_a faults_b) serves.history serves.doubt
  leaves = record {
    tell = tell;
    in_doubt = doubt_at_end server (faults_a + faults_b) serves.history serves.between serves.turned.legal (disks_at new) serves.doubt
        start.at_a start.at_b serves.turned.crash;
    sound = subst (λ (s : Server). IsSound s.state.kept serves.doubt (new.a.images new.a.moment) (new.b.images new.b.moment))
        (sym serves.turned.leads) serves.sound;
    amid = stands_amid server (faults_a + faults_b) serves.history serves.between serves.turned.legal (disks_at new) serves.doubt
        start.at_a start.at_b opens_on.sound serves.turned.crash;
    reads = λ told none. subst (λ (s : Server). StandFor new s) (sym serves.turned.leads) (serves.reads (tell told) none);
    calm = calm;
  }

  pub is_run : IsRun gate status moments words old new
  is_run = record {
    opened = opened_at start server faults_a faults_b;
    history = serves.history;
    doubt = serves.doubt;
    later_moments = serves.later_moments;
    later_words = serves.later_words;
    ended = serves.ended;
    is_status = serves.is_status;
    opens = opens_on;
    turned = record {
      seats = serves.turned.seats;
      moments = serves.turned.moments;
      words = serves.turned.words;
      legal = serves.turned.legal;
      leads = refl;
      counted = serves.turned.counted;
      later_a = serves.turned.later_a;
      later_b = serves.turned.later_b;
      past = record {
        a = λ at image early. ((λ is. is), (λ is. is));
        b = λ at image early. ((λ is. is), (λ is. is));
      };
      crash = serves.turned.crash;
    };
    session = serves.session;
    leaves = leaves;
    lives = λ told runs may. record {
      life = run_lives runs old.a.content old.b.content may server (faults_a + faults_b) serves.history
          (opens.stands told) opens.alone serves.turned.legal;
      crash = crash_lives runs old.a.content old.b.content may server (faults_a + faults_b) serves.history
          (opens.stands told) opens.alone serves.turned.legal (disks_at new) start.at_a start.at_b new.a.moment
          new.b.moment leaves.amid;
      back = back_lives runs old.a.content old.b.content may server (faults_a + faults_b) serves.history
          (opens.stands told) opens.alone serves.turned.legal serves.doubt leaves.in_doubt (new.a.images new.a.moment)
          (new.b.images new.b.moment) leaves.sound;
    };
  }

-- ---- no run

-- nothing was called
pub not_begun : (old : Outside) → IsNotOpened 8 None old old
not_begun old = record {
  refusal = inr refl;
  input = refl;
  out = refl;
  files = λ tell. record { first = inl refl; second = refl };
  damaged = λ tell. tt;
  cause = record {
    later_a = omega arith;
    later_b = omega arith;
    failed = λ five. absurd (omega (arith, five));
  };
  tell = λ tell. tell;
  crash = λ kept other each. goes_nowhere (StandsForOne kept other) (disks_at old) each;
  lives = lives_through old old (disks_at old) (λ kept each.
      let on = goes_nowhere (StandsForOne kept kept) (disks_at old) each in
      (on.past, on.way));
}

-- a damage that is told has what its cause has
pub damage_told : (damage : Option Damage) (Is Told : Damage → Type 0) → IfSome damage Is
    → ((one : Damage) → Is one → Told one) → IfSome damage Told
damage_told None Is Told is told = tt
damage_told (Some damage) Is Told is told = told damage is

-- opening was refused, and handed both disks back
pub refused_so : (status : ℕ) (damage : Option Damage) (old new : Outside) → HasRefusal status damage
    → new.input ≡ old.input → new.out ≡ old.out
    → (DisksTell old → KeepFiles old.a.content old.b.content new.a.content new.b.content)
    → (DisksTell old → IfSome damage (IsDamageTold old new))
    → HasDiskCause (status ≡ 5) old.a.faults new.a.faults old.b.faults new.b.faults
    → new.a.told ≡ old.a.told → new.b.told ≡ old.b.told
    → ((kept other : KeptState)
    → EachPair (StandsForOne kept other) (old.a.images old.a.moment) (old.b.images old.b.moment)
    → GoOn (StandsForOne kept other) (disks_at old) (disks_at new))
    → IsNotOpened status damage old new
refused_so status damage old new refusal input out files damaged cause told_a told_b crash = record {
  refusal = refusal;
  input = input;
  out = out;
  files = files;
  damaged = damaged;
  cause = cause;
  tell = λ tell. (subst IsTrue (sym told_a) tell.0, subst IsTrue (sym told_b) tell.1);
  crash = crash;
  lives = lives_through old new (disks_at new) (λ kept each.
      let on = crash kept kept each in
      (on.past, on.way));
}
