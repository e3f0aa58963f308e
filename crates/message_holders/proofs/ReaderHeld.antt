-- The attribute reader in a pass, where it stands at places of one holder s: what `next` finds there, the next place, and what a turn says of it.
use Rattle.std.proofs.Common.{◌≡◌, ℕ, List, ap, ◌∙◌, subst}
use Rattle.message_attributes.specs.declared.attribute.Next.{Next}
use Rattle.message_attributes.specs.declared.reader.Attributes.{Attributes}
use Rattle.message_attributes.specs.declared.reader.Stepped.{Stepped}
use Rattle.message_attributes.specs.Next.{next_at, place_after, stepped_from}
use Rattle.message_holders.specs.declared.inside.InsideSoFar.{InsideSoFar}
use Rattle.message_holders.specs.declared.body.BodySoFar.{BodySoFar}
use Rattle.message_holders.specs.Turn.{over_after, inside_of, inside_after, body_of, body_after}
use Rattle.message_holders.proofs.PassLaws.{InsideTold, BodyTold}

module _ {s : List ℕ} (a : Attributes) (n : Stepped) (holds : a.message.now ≡ s) (e : n ≡ stepped_from a) where
  pub found_is : n.attribute ≡ next_at s a.at
  found_is = ap (λ (x : Stepped). x.attribute) e ∙ ap (λ (l : List ℕ). next_at l a.at) holds

  pub after_is : n.rest.at ≡ place_after a.at (next_at s a.at)
  after_is = ap (λ (x : Stepped). x.rest.at) e ∙ ap (λ (l : List ℕ). place_after a.at (next_at l a.at)) holds

  -- the reader that is handed back holds the same
  pub holds_on : n.rest.message.now ≡ s
  holds_on = ap (λ (x : Stepped). x.rest.message.now) e ∙ holds

  pub inside_told : (h : ℕ) (r q : InsideSoFar)
      → (inside_of q ≡ inside_after h s n.attribute (inside_of r)) × (q.over ≡ over_after n.attribute r.over) → InsideTold h s a.at r q
  inside_told h r q t =
      subst (λ (x : Next). (inside_of q ≡ inside_after h s x (inside_of r)) × (q.over ≡ over_after x r.over)) found_is t

  pub body_told : (h : ℕ) (r q : BodySoFar)
      → (body_of q ≡ body_after h s n.attribute (body_of r)) × (q.over ≡ over_after n.attribute r.over) → BodyTold h s a.at r q
  body_told h r q t =
      subst (λ (x : Next). (body_of q ≡ body_after h s x (body_of r)) × (q.over ≡ over_after x r.over)) found_is t
