-- `text::is_ascii_text` meets its contract: the fold over the bytes goes by each of them.
use Rattle.std.proofs.Common.{◌≡◌, refl, sym, ◌∙◌, ap, subst, rules}
use borrow.Author.Tests.{tests}
use Rattle.std.specs.Prelude.{Bool, ◌&&◌, leb, ltb}
use Rattle.std.proofs.lemmas.Fn.{fold_over, slice_gives, fronts}
use Rattle.text.specs.AsciiText.{is_ascii_text}
use Rattle.text.proofs.AsciiText.{ascii_more}
use Rattle.text.proofs.is_ascii_text.Goals as goal

pub returns : goal.returns
unfolding is_ascii_text
returns c =
    subst (λ l. c.fold.result ≡ is_ascii_text l) c.iter.ensures.rest
    (fold_over fronts (λ y. y.now) _ (λ ys t. t ≡ is_ascii_text ys) _
    (λ ys t x r f' j k. let e : r ≡ ((t && leb 1 x.now) && ltb x.now 128) = search (rules, tests) in (e ∙ ap (λ (b : Bool). (b && leb 1 x.now) && ltb x.now 128) j ∙ sym (ascii_more ys x.now), refl))
    _ _ _ _ (slice_gives c.iter.result) refl c.fold.ensures.ran)
