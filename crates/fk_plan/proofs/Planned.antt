-- What is planned: the moves by which the state is brought up to date, those of the request, and the numbers last.
use Rattle.std.proofs.Common.{◌≡◌, ◌∙◌, sym, ap, refl, subst, ℕ, ◌+◌, ◌^◌, ◌<◌, ◌≤◌, List, ◌++◌, length, arith}
use Rattle.std.proofs.lemmas.List.{append-nil}
use Rattle.fk_frame.specs.declared.reply.Reply.{Reply}
use Rattle.fk_job.specs.declared.job.Job.{Job}
use Rattle.fk_model.specs.declared.ask.Ask.{Ask}
use Rattle.fk_model.specs.declared.ask.Ask.TheVariants.{Hello, Push, PushBatch, Fetch, Ack, Fail, Beat, Signal, Info, Flush, Mutate, Tick}
use Rattle.fk_frame.specs.declared.reply.Reply.TheVariants.{Bulk}
use Rattle.fk_model.specs.declared.mutation.Cmd.{Cmd}
use Rattle.fk_model.specs.declared.mutation.Target.{Target}
use Rattle.fk_model.specs.declared.mutation.Filter.{Filter}
use Rattle.fk_model.specs.declared.move_.Move.{Move}
use Rattle.fk_model.specs.Limits.{greatest_next}
use Rattle.fk_model.specs.State.{KeptState, State}
use Rattle.fk_model.specs.Between.{IsWellKept}
use Rattle.fk_model.specs.Due.{IsUpToDate}
use Rattle.fk_model.specs.Bringing.{brought_up, moves_up}
use Rattle.fk_model.specs.Info.{info_text}
use Rattle.fk_model.specs.Said.{said}
use Rattle.fk_model.specs.Turns.{closed, moves_of, turn, up_to_date}
use Rattle.fk_plan.specs.declared.numbers.Numbers.{Numbers}
use Rattle.fk_plan.specs.declared.bringing.BroughtUp.{BroughtUp}
use Rattle.fk_plan.specs.Upkeep.{AreFewDue, IsBroughtUp}
use Rattle.fk_plan.specs.Plans.{left_of, IsPlan, AreNumbersOf, IsDone}
use Rattle.fk_plan.proofs.DueNumbers.{up_next_pairs, few_due}
use Rattle.fk_plan.proofs.NothingDue.{no_moves}

-- the numbers of a kept state that was brought up to date
pub numbers_up : (kept : KeptState) (moment word : ℕ) (up : BroughtUp) → IsBroughtUp kept moment word up
    → AreNumbersOf (brought_up kept moment word) up.numbers
numbers_up kept moment word up is =
    record { next = is.next; processed = is.processed; failures = is.failures }

-- an ask says nothing of jobs
pub record SaysNothing (ask : Ask) : Type 0 where
  pub push : (job : Job) → ask ≡ Push job → ⊥
  pub batch : (jobs : List Job) (told : List ℕ) → ask ≡ PushBatch jobs told → ⊥
  pub fetch : (wid : List ℕ) (queues : List (List ℕ)) → ask ≡ Fetch wid queues → ⊥
  pub ack : (jid : List ℕ) → ask ≡ Ack jid → ⊥
  pub fail : (jid errtype message : List ℕ) (backtrace : List (List ℕ)) → ask ≡ Fail jid errtype message backtrace → ⊥
  pub info : ask ≡ Info → ⊥
  pub flush : ask ≡ Flush → ⊥
  pub mutate : (cmd : Cmd) (target : Target) (filter : Filter) → ask ≡ Mutate cmd target filter → ⊥

is_left : (ask : Ask) → SaysNothing ask → left_of ask ≡ ask
is_left (Push job) not = absurd (not.push job refl)
is_left (PushBatch jobs told) not = absurd (not.batch jobs told refl)
is_left (Fetch wid queues) not = absurd (not.fetch wid queues refl)
is_left (Ack jid) not = absurd (not.ack jid refl)
is_left (Fail jid errtype message backtrace) not = absurd (not.fail jid errtype message backtrace refl)
is_left Info not = absurd (not.info refl)
is_left Flush not = absurd (not.flush refl)
is_left (Mutate cmd target filter) not = absurd (not.mutate cmd target filter refl)
is_left (Hello wid) not = refl
is_left (Beat wid) not = refl
is_left (Signal wid given) not = refl
is_left Tick not = refl

-- an ask that says nothing of jobs is what is left of it
pub all_left : (ask other : Ask) → other ≡ ask → SaysNothing other → left_of ask ≡ ask
all_left ask other same not = subst (λ (one : Ask). left_of one ≡ one) same (is_left other not)

-- such an ask changes nothing that is kept
pub attended : (before : KeptState) (up : State) (ask : Ask) (moment word : ℕ) (reply : Reply) (front : List Move)
    (numbers : Numbers) → left_of ask ≡ ask → reply ≡ (said up ask moment word).reply
    → AreNumbersOf up.kept numbers → IsDone before up ask moment word reply front front numbers
unfolding said moves_of
attended before up (Push job) moment word reply front numbers left is has = absurd (cc left)
attended before up (PushBatch jobs told) moment word reply front numbers left is has = absurd (cc left)
attended before up (Fetch wid queues) moment word reply front numbers left is has = absurd (cc left)
attended before up (Ack jid) moment word reply front numbers left is has = absurd (cc left)
attended before up (Fail jid errtype message backtrace) moment word reply front numbers left is has =
    absurd (cc left)
attended before up Info moment word reply front numbers left is has = absurd (cc left)
attended before up Flush moment word reply front numbers left is has = absurd (cc left)
attended before up (Mutate cmd target filter) moment word reply front numbers left is has = absurd (cc left)
attended before up (Hello wid) moment word reply front numbers left is has =
    record { answer = is; made = sym (append-nil front); counted = has }
attended before up (Beat wid) moment word reply front numbers left is has =
    record { answer = is; made = sym (append-nil front); counted = has }
attended before up (Signal wid given) moment word reply front numbers left is has =
    record { answer = is; made = sym (append-nil front); counted = has }
attended before up Tick moment word reply front numbers left is has =
    record { answer = is; made = sym (append-nil front); counted = has }

-- an INFO changes nothing that is kept either
pub informed : (before : KeptState) (up : State) (moment word : ℕ) (reply : Reply) (front : List Move)
    (numbers : Numbers) → reply ≡ Bulk (info_text up.kept moment) → AreNumbersOf up.kept numbers
    → IsDone before up Info moment word reply front front numbers
unfolding said moves_of
informed before up moment word reply front numbers is has =
    record { answer = is; made = sym (append-nil front); counted = has }

-- the pairs that are due and the numbers up to the next one, which are below its bound
pub few_pairs : (kept : KeptState) (moment word : ℕ) (up : BroughtUp) → IsWellKept kept
    → IsBroughtUp kept moment word up → (brought_up kept moment word).next ≤ 2 ^ 63
    → kept.next + length up.due.items < 2 ^ 64
few_pairs kept moment word up well is within =
    let next = up_next_pairs kept moment word well in
    let same = ap length is.due in
    omega (arith, next, same, within)

pub few_up : (kept : KeptState) (moment word : ℕ) → IsWellKept kept → (brought_up kept moment word).next ≤ 2 ^ 63
    → AreFewDue kept moment
few_up kept moment word well within =
    let next = up_next_pairs kept moment word well in omega (arith, next, within)

-- the next number is far from the end of its type
pub next_within : (kept : KeptState) (moment word : ℕ) → IsWellKept kept → kept.next ≤ greatest_next
    → (brought_up kept moment word).next ≤ 2 ^ 63
next_within kept moment word well within =
    let next = up_next_pairs kept moment word well in
    let few = few_due kept moment well in
    omega (arith, next, few, within)

-- the numbers are told where there is any move
pub planned : (state : State) (ask : Ask) (moment word : ℕ) (reply : Reply) (front moves all : List Move)
    (numbers : Numbers) → front ≡ moves_up state.kept moment word
    → IsDone state.kept (up_to_date state moment word) ask moment word reply front moves numbers
    → ((kept : KeptState) → AreNumbersOf kept numbers → all ≡ closed moves kept)
    → IsPlan state ask moment word reply all
planned state ask moment word reply front moves all numbers first is told = record {
  said = is.answer;
  made = told (turn state ask moment word).state.kept is.counted
      ∙ ap (λ xs. closed xs (turn state ask moment word).state.kept)
      (is.made ∙ ap (λ xs. xs ++ moves_of state.kept (up_to_date state moment word) ask moment word) first);
}

-- where nothing is due, bringing up takes none of the room
pub room_stays : (kept : KeptState) (moment word spare left : ℕ) (moves : List Move) → IsUpToDate moment kept
    → moves ≡ moves_up kept moment word → spare ≤ length moves + left → spare ≤ left
room_stays kept moment word spare left moves on made room =
    let none : length moves ≡ 0 = ap length (made ∙ sym (no_moves moment word kept on)) in
    omega (arith, none, room)
