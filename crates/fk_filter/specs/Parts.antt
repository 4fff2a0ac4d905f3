-- What a part of a pattern stands for, as the code tells it.
use Rattle.fk_model.specs.Glob.{Part, run, one, itself}
use Rattle.fk_filter.specs.declared.part.Part as code
use Rattle.fk_filter.specs.declared.part.Part.TheVariants.{Run, One, Itself}

-- the part that is meant
abbrev pub meant : code.Part → Part
meant Run = run
meant One = one
meant (Itself byte) = itself byte
