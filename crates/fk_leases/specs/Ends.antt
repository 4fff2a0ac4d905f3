-- What ends when: beside the leases by jid, each lease by the moment until which it runs.
use Rattle.std.specs.Prelude.{ℕ, ◌≡◌, ◌==◌, ◌&&◌, ◌<◌, ◌≤◌, Bool, List, map, bytes_eq, count_by, sum_by}
use Rattle.std.specs.List.{IsDistinct}
use Rattle.fk_tree.specs.Order.{IsRising}
use Rattle.fk_tree.specs.Room as tree
use Rattle.fk_lists.specs.Room.{Named, Spares, Room, all_pairs, spare_at, AreNamed}
use Rattle.fk_leases.specs.Leases.{leased_ticket, until_in, AreByTicket}

-- the end of a lease: the moment until which it runs, and its ticket
abbrev pub end_of : ℕ × ℕ → ℕ × ℕ
end_of lease = (until_in lease, leased_ticket lease)

-- the ends of the leases of all jids
abbrev pub ends_of : Named → List (ℕ × ℕ)
ends_of leases = map end_of (all_pairs leases)

-- one list has the pairs of another, each as often
abbrev pub HaveSame : List (ℕ × ℕ) → List (ℕ × ℕ) → Type 0
HaveSame ones others = (test : ℕ × ℕ → Bool) → count_by test ones ≡ count_by test others

-- whether a pair is this one
abbrev pub is_pair : ℕ × ℕ → ℕ × ℕ → Bool
is_pair pair other = (other.0 == pair.0) && (other.1 == pair.1)

-- a pair is among these
abbrev pub IsAmong : ℕ × ℕ → List (ℕ × ℕ) → Type 0
IsAmong pair pairs = 0 < count_by (is_pair pair) pairs

-- whichever jids are looked at, each once, the rooms of all of them together are at most so many
abbrev pub HaveRoom : Spares → ℕ → Type 0
HaveRoom spares room =
    (jids : List (List ℕ)) → IsDistinct bytes_eq jids → sum_by (spare_at spares) jids ≤ room

-- what holds of the leases by jid and of those by moment: they are the same leases, and both have room for
-- all that may be put
pub record IsSound (leases : Room) (ends : tree.Room) (rooms : ℕ) : Type 0 where
  pub by_ticket : AreByTicket leases.items
  pub named : AreNamed leases.items
  pub rising : IsRising ends.items
  pub same : HaveSame ends.items (ends_of leases.items)
  pub room : HaveRoom leases.spares rooms
  pub spare : rooms ≤ ends.spare
