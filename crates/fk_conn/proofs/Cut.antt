-- A part of the replies to some items of the script's own ends within one of them, or between two.
use Rattle.std.proofs.Common.{◌≡◌, ℕ, ◌<◌, ◌≤◌, List, [], ◌∷◌, ◌++◌, length, drop, Option, Some, inl, inr, refl, sym, ap, ◌∙◌, arith, append_assoc, length-append}
use Rattle.std.specs.Prelude.{option_to_list, slice_index}
use Rattle.std.proofs.lemmas.Bool.{cases_lt}
use Rattle.std.proofs.lemmas.List.{append_cancel_left}
use Rattle.fk_frame.specs.declared.reply.Reply.{Reply}
use Rattle.fk_frame.specs.Replies.{reply_bytes}
use Rattle.fk_model.specs.declared.item.Item.{Item}
use Rattle.fk_model.specs.declared.item.Item.TheVariants.{Own, Asks}
use Rattle.fk_model.specs.Out.{asks_of, out}
use Rattle.fk_conn.specs.Session.{Begins, IsPartOf}
use Rattle.fk_conn.proofs.Writing.{begins_behind, begins_more}

-- where it ends: behind the replies to the first items, and perhaps within the next
pub record CutAt (own : List Item) (part : List ℕ) : Type 0 where
  pub front : List Item
  pub begun : Option Item
  pub behind : List Item
  pub are_all : own ≡ (front ++ option_to_list begun) ++ behind
  pub none : asks_of (front ++ option_to_list begun) ≡ []
  pub whole : Begins (out front []) part
  pub no_more : Begins part (out (front ++ option_to_list begun) [])

-- two ways to cut one list: the front that is not longer begins the other
shorter_begins : (a b xs ys : List ℕ) → a ++ xs ≡ b ++ ys → length a ≤ length b → Begins a b
shorter_begins [] b xs ys is short = (b, refl)
shorter_begins (x ∷ a) [] xs ys is short = absurd (omega (arith, short))
shorter_begins (x ∷ a) (y ∷ b) xs ys is short =
    let first : x ≡ y = ap (λ (l : List ℕ). slice_index l 0) is in
    let (rest, more) = shorter_begins a b xs ys (ap (λ (l : List ℕ). drop 1 l) is) (omega (arith, short)) in
    (rest, ap (λ z. z ∷ b) (sym first) ∙ ap (λ l. x ∷ l) more)

-- it ends within the first reply
in_first : (reply : Reply) (own : List Item) (part rest : List ℕ)
    → reply_bytes reply ++ out own [] ≡ part ++ rest → length part < length (reply_bytes reply)
    → CutAt (Own reply ∷ own) part
in_first reply own part rest is short = record {
  front = [];
  begun = Some (Own reply);
  behind = own;
  are_all = refl;
  none = refl;
  whole = (part, refl);
  no_more = begins_more part (reply_bytes reply) []
      (shorter_begins part (reply_bytes reply) rest (out own []) (sym is) (omega (arith, short)));
}

-- or behind it
behind_first : (reply : Reply) (own : List Item) (part more : List ℕ) → part ≡ reply_bytes reply ++ more
    → CutAt own more → CutAt (Own reply ∷ own) part
behind_first reply own part more is cut = record {
  front = Own reply ∷ cut.front;
  begun = cut.begun;
  behind = cut.behind;
  are_all = ap (λ items. Own reply ∷ items) cut.are_all;
  none = cut.none;
  whole = rw is (begins_behind (reply_bytes reply) (out cut.front []) more cut.whole);
  no_more = rw is
      (begins_behind (reply_bytes reply) more (out (cut.front ++ option_to_list cut.begun) []) cut.no_more);
}

pub own_cut : (own : List Item) (part : List ℕ) → asks_of own ≡ [] → IsPartOf part (out own [])
    → CutAt own part
own_cut [] part none (rest, some, is) = absurd (omega (arith, some, ap length is, length-append part rest))
own_cut (Asks ask ∷ own) part none is = absurd (omega (arith, ap length none))
own_cut (Own reply ∷ own) part none (rest, some, is) =
    elim (cases_lt (length part) (length (reply_bytes reply))) [
      | inl short ↦ in_first reply own part rest is short
      | inr long ↦ (
          let (more, whole) = shorter_begins (reply_bytes reply) part (out own []) rest is long in
          let left = append_cancel_left (reply_bytes reply) (out own []) (more ++ rest)
          (is ∙ ap (λ l. l ++ rest) whole ∙ append_assoc (reply_bytes reply) more rest) in
          behind_first reply own part more whole (own_cut own more none (rest, some, left)))
    ]
