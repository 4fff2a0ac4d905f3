-- Bytes taken or gained in two calls are taken or gained together.
use Rattle.std.proofs.Common.{ℕ, List, [], ◌++◌, Option, None, Some, refl, append_assoc, append-nil}
use Rattle.fk_io.specs.Content.{Took, Gained}

-- nothing was taken
pub took_nothing : (left : Option (List ℕ)) → Took left [] left
took_nothing None = refl
took_nothing (Some left) = refl

-- these bytes were taken, and then those
pub took_both : (a b c : Option (List ℕ)) (xs ys : List ℕ) →
    Took a xs b → Took b ys c → Took a (xs ++ ys) c
took_both a b None xs ys first second = rw (first, second)
took_both a b (Some left) xs ys first second = rw (first, second, append_assoc)

-- nothing was gained
pub gained_nothing : (held : Option (List ℕ)) → Gained held [] held
gained_nothing None = refl
gained_nothing (Some held) = rw append-nil

-- these bytes were gained, and then those
pub gained_both : (a b c : Option (List ℕ)) (xs ys : List ℕ) →
    Gained a xs b → Gained b ys c → Gained a (xs ++ ys) c
gained_both None b c xs ys first second = rw (second, first)
gained_both (Some held) b c xs ys first second = rw (second, first, append_assoc)
