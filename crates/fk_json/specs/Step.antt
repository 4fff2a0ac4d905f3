-- What a byte does to a scan.
use Rattle.std.specs.Prelude.{Option}
use Rattle.fk_json.specs.declared.standing.Found.{Found}
use Rattle.fk_json.specs.declared.standing.Led.{Led}
use Rattle.fk_json.specs.declared.standing.Led.TheVariants as led
use Rattle.fk_json.specs.declared.standing.Standing.{Standing}

-- it leads on, and perhaps an item ended before it; it opens a level too many; it can't stand there
pub data Step : Type 0 where
  Goes : Standing → Option Found → Step
  TooDeep : Step
  Stops : Step

-- what a byte did, where it left the scan standing so
abbrev pub gives : Led → Standing → Step
gives (led.On found) standing = Goes standing found
gives led.TooDeep standing = TooDeep
gives led.Stops standing = Stops
