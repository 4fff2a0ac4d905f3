use Rattle.std.proofs.Common.{arith, add-one, refl, ◌≡◌, ◌<◌, ◌-◌, suc, length}
use Rattle.std.specs.VecDeque.{deque_capacity}
use Rattle.fk_rows.specs.Chunks.{chunk_at, full, half}
use Rattle.fk_rows.proofs.Parting.{first_half, second_half, before_stays, from_stays, before_moves, from_moves}
use Rattle.fk_rows.proofs.Soundness.{sound_parted, count_first, count_last}
use Rattle.fk_rows.proofs.chunks.Chunks.opened.Goals as goal

pub invariant_of-self : goal.invariant_of-self
invariant_of-self c =
    let room = rw (← c.self.view_is) at c.requires.room in
    let chunk = rw (← c.self.view_is) at c.requires.chunk in
    let within : c.args.spot.chunk < length c.self.inside.chunks.items = omega (arith, chunk, c.self.invariant.begun room) in
    let whole : length (chunk_at c.self.inside.chunks.items c.args.spot.chunk) ≡ full = omega (arith, c.len_at.ensures.count, c.len_at.ensures.within, c.if-len_at-lt-FULL.false) in
    rw (c.part.ensures.items, add-one)
    (sound_parted c.self.inside.chunks.items c.self.inside.store.items c.pop.new.self.items c.in-Some.second c.self.inside.room (deque_capacity c.self.inside.chunks) (deque_capacity c.part.new.chunks) c.args.spot.chunk
    c.self.invariant c.in-Some.ensures.items within whole c.part.ensures.capacity)

pub invariant_of-self-2 : goal.invariant_of-self-2
invariant_of-self-2 c =
    let room = rw (← c.self.view_is) at c.requires.room in
    let chunk = rw (← c.self.view_is) at c.requires.chunk in
    let within : c.args.spot.chunk < length c.self.inside.chunks.items = omega (arith, chunk, c.self.invariant.begun room) in
    let whole : length (chunk_at c.self.inside.chunks.items c.args.spot.chunk) ≡ full = omega (arith, c.len_at.ensures.count, c.len_at.ensures.within, c.if-len_at-lt-FULL.false) in
    rw (c.part.ensures.items, add-one)
    (sound_parted c.self.inside.chunks.items c.self.inside.store.items c.pop.new.self.items c.in-Some.second c.self.inside.room (deque_capacity c.self.inside.chunks) (deque_capacity c.part.new.chunks) c.args.spot.chunk
    c.self.invariant c.in-Some.ensures.items within whole c.part.ensures.capacity)

pub returns-then-spot-le-HALF-clause-at : goal.returns-then-spot-le-HALF-clause-at
returns-then-spot-le-HALF-clause-at c =
    let room = rw (← c.self.view_is) at c.requires.room in
    let chunk = rw (← c.self.view_is) at c.requires.chunk in
    let within : c.args.spot.chunk < length c.self.inside.chunks.items = omega (arith, chunk, c.self.invariant.begun room) in
    let whole : length (chunk_at c.self.inside.chunks.items c.args.spot.chunk) ≡ full = omega (arith, c.len_at.ensures.count, c.len_at.ensures.within, c.if-len_at-lt-FULL.false) in
    rw (c.part.ensures.items, add-one, first_half c.self.inside.chunks.items c.args.spot.chunk half within, count_first _ whole) c.if-spot-le-HALF.true

pub returns-then-spot-le-HALF-clause-open : goal.returns-then-spot-le-HALF-clause-open
returns-then-spot-le-HALF-clause-open c =
    let room = rw (← c.self.view_is) at c.requires.room in
    let chunk = rw (← c.self.view_is) at c.requires.chunk in
    let within : c.args.spot.chunk < length c.self.inside.chunks.items = omega (arith, chunk, c.self.invariant.begun room) in
    let whole : length (chunk_at c.self.inside.chunks.items c.args.spot.chunk) ≡ full = omega (arith, c.len_at.ensures.count, c.len_at.ensures.within, c.if-len_at-lt-FULL.false) in
    rw (c.part.ensures.items, add-one, first_half c.self.inside.chunks.items c.args.spot.chunk half within, count_first _ whole) (omega arith)

pub returns-then-spot-le-HALF-clause-before : goal.returns-then-spot-le-HALF-clause-before
returns-then-spot-le-HALF-clause-before c =
    let room = rw (← c.self.view_is) at c.requires.room in
    let chunk = rw (← c.self.view_is) at c.requires.chunk in
    let within : c.args.spot.chunk < length c.self.inside.chunks.items = omega (arith, chunk, c.self.invariant.begun room) in
    rw (← c.self.view_is, c.part.ensures.items, add-one) (before_stays c.self.inside.chunks.items c.args.spot half within c.if-spot-le-HALF.true)

pub returns-then-spot-le-HALF-clause-from : goal.returns-then-spot-le-HALF-clause-from
returns-then-spot-le-HALF-clause-from c =
    let room = rw (← c.self.view_is) at c.requires.room in
    let chunk = rw (← c.self.view_is) at c.requires.chunk in
    let within : c.args.spot.chunk < length c.self.inside.chunks.items = omega (arith, chunk, c.self.invariant.begun room) in
    rw (← c.self.view_is, c.part.ensures.items, add-one) (from_stays c.self.inside.chunks.items c.args.spot half within c.if-spot-le-HALF.true)

pub returns-clause-at : goal.returns-clause-at
returns-clause-at c =
    let room = rw (← c.self.view_is) at c.requires.room in
    let chunk = rw (← c.self.view_is) at c.requires.chunk in
    let inside = rw (← c.self.view_is) at c.requires.at in
    let within : c.args.spot.chunk < length c.self.inside.chunks.items = omega (arith, chunk, c.self.invariant.begun room) in
    let whole : length (chunk_at c.self.inside.chunks.items c.args.spot.chunk) ≡ full = omega (arith, c.len_at.ensures.count, c.len_at.ensures.within, c.if-len_at-lt-FULL.false) in
    rw (c.part.ensures.items, add-one, second_half c.self.inside.chunks.items c.args.spot.chunk half within, count_last _ whole) (omega (arith, inside, whole))

pub returns-clause-open : goal.returns-clause-open
returns-clause-open c =
    let room = rw (← c.self.view_is) at c.requires.room in
    let chunk = rw (← c.self.view_is) at c.requires.chunk in
    let within : c.args.spot.chunk < length c.self.inside.chunks.items = omega (arith, chunk, c.self.invariant.begun room) in
    let whole : length (chunk_at c.self.inside.chunks.items c.args.spot.chunk) ≡ full = omega (arith, c.len_at.ensures.count, c.len_at.ensures.within, c.if-len_at-lt-FULL.false) in
    rw (c.part.ensures.items, add-one, second_half c.self.inside.chunks.items c.args.spot.chunk half within, count_last _ whole) (omega arith)

pub returns-clause-before : goal.returns-clause-before
returns-clause-before c =
    let room = rw (← c.self.view_is) at c.requires.room in
    let chunk = rw (← c.self.view_is) at c.requires.chunk in
    let within : c.args.spot.chunk < length c.self.inside.chunks.items = omega (arith, chunk, c.self.invariant.begun room) in
    rw (← c.self.view_is, c.part.ensures.items, add-one)
    (before_moves c.self.inside.chunks.items c.args.spot half within (record { chunk = suc c.args.spot.chunk; at = c.args.spot.at - 1_024 }) refl (omega (arith, c.if-spot-le-HALF.false)))

pub returns-clause-from : goal.returns-clause-from
returns-clause-from c =
    let room = rw (← c.self.view_is) at c.requires.room in
    let chunk = rw (← c.self.view_is) at c.requires.chunk in
    let within : c.args.spot.chunk < length c.self.inside.chunks.items = omega (arith, chunk, c.self.invariant.begun room) in
    rw (← c.self.view_is, c.part.ensures.items, add-one)
    (from_moves c.self.inside.chunks.items c.args.spot half within (record { chunk = suc c.args.spot.chunk; at = c.args.spot.at - 1_024 }) refl (omega (arith, c.if-spot-le-HALF.false)))
