-- What a MUTATE gives, after Faktory's public documentation of it: which rows are to be changed, and how, or a
-- refusal. The texts are this server's own.
use Rattle.std.specs.Prelude.{◌≡◌, ℕ, List, if◌then◌else◌, Option, None, Some, bytes_eq, option_and_then, codes}
use Rattle.std.specs.Option.{option_map_or}
use Rattle.serde_json.specs.Data.{Members}
use Rattle.serde_json.specs.Find.{get_member}
use Rattle.fk_model.specs.declared.ask.Ask.TheVariants.{Mutate}
use Rattle.fk_model.specs.declared.item.Item.{Item}
use Rattle.fk_model.specs.declared.item.Item.TheVariants.{Asks}
use Rattle.fk_model.specs.declared.mutation.Cmd.{Cmd}
use Rattle.fk_model.specs.declared.mutation.Cmd.TheVariants.{Kill, Discard, Requeue, Clear}
use Rattle.fk_model.specs.declared.mutation.Filter.{Filter}
use Rattle.fk_model.specs.declared.mutation.Target.{Target}
use Rattle.fk_model.specs.declared.mutation.Target.TheVariants as target
use Rattle.fk_model.specs.Payloads.{object_read, refused, string_among}
use Rattle.fk_model.specs.Filters.{filter_of, no_condition}

-- what is done by this name
abbrev pub cmd_named : List ℕ → Option Cmd
cmd_named name =
    if bytes_eq name (codes "kill") then Some Kill else
    (if bytes_eq name (codes "discard") then Some Discard else
    (if bytes_eq name (codes "requeue") then Some Requeue else
    (if bytes_eq name (codes "clear") then Some Clear else None)))

-- the set of rows of this name
abbrev pub target_named : List ℕ → Option Target
target_named name =
    if bytes_eq name (codes "scheduled") then Some target.Scheduled else
    (if bytes_eq name (codes "retries") then Some target.Retries else
    (if bytes_eq name (codes "dead") then Some target.Dead else None))

-- the filter among the members, if it is one: where none is there, there is no condition
abbrev pub filter_among : Members → Option Filter
filter_among members =
    option_map_or filter_of (get_member (codes "filter") members) (Some no_condition)

-- what a MUTATE gives that does this to this set, by its other members
abbrev pub mutation_of : Cmd → Members → Target → Item
mutation_of cmd members target =
    option_map_or (λ filter. Asks (Mutate cmd target filter)) (filter_among members)
    (refused (codes "Bad filter"))

-- what a MUTATE gives that does this, by its other members
abbrev pub mutation_by : Members → Cmd → Item
mutation_by members cmd =
    option_map_or (mutation_of cmd members)
    (option_and_then target_named (string_among (codes "target") members))
    (refused (codes "Bad target"))

-- what a MUTATE of an object gives
abbrev pub mutation : Members → Item
mutation members =
    option_map_or (mutation_by members)
    (option_and_then cmd_named (string_among (codes "cmd") members))
    (refused (codes "Bad cmd"))

-- a MUTATE asks for what its arguments say, or is refused where they are no object, or where cmd, target or filter
-- isn't what it has to be
abbrev pub IsMutation : List ℕ → Item → Type 0
IsMutation arguments item =
    item ≡ option_map_or mutation (object_read arguments) (refused (codes "Bad JSON"))
