-- Laws of attributes put one after the other, and of the length so far.
use Prim.Native.Nat.{ℕ, suc, ◌+◌, ◌≤◌, ◌<◌}
use mathlib.Core.Path.{◌≡◌, refl, sym, ap, ◌∙◌, subst}
use mathlib.Core.List.{List, [], ◌∷◌, ◌++◌, append-nil}
use native.Mathlib.Omega.{arith}
use lib.ListN.{length, set, length-append}
use lib.Seq.{sets, set_comm}
use Rattle.key_traffic.specs.Put.{Put}
use Rattle.key_traffic.proofs.StoreLaws.{sets_append, then_put}
use Rattle.message_rules.specs.Attributes.{Item, attr, attr_octets, octets, two}
use Rattle.message_rules.proofs.AttributesLaws.{length_two}
use Rattle.message_rules.proofs.HoldsLaws.{octets_append}
use Rattle.message_parts.specs.Put.{Wrote}
use Rattle.message_parts.specs.Parts.{head_octets_of}
use Rattle.message_parts.proofs.PartLaws.{length_items, length_none}

-- a run of stores that begins where another ended
run_on : (d v w : List ℕ) (i : ℕ) {e f : List ℕ} {j : ℕ} → j ≡ i + length v → e ≡ sets d i v → f ≡ sets e j w → f ≡ sets d i (v ++ w)
run_on d v w i {e} {f} {j} at p q =
    let first : Put d i v j e = record { after = at; stored = p } in
    let second : Put e j w (j + length w) f = record { after = refl; stored = q } in
    (then_put first second).stored

-- what was put, whatever was put before it
pub wrote : {d : List ℕ} {len : ℕ} {l : List Item} {next : ℕ} {e : List ℕ} → next ≡ len + length (octets l) → e ≡ sets d (4 + len) (octets l) → Wrote d len l next e
wrote {d} {len} {l} {next} {e} c s = record {
  counted = c;
  stored = s;
  so_far = λ first v before.
      let at : 4 + len ≡ 4 + length v = omega (arith, before.counted) in
      record {
        counted = omega (arith, c, before.counted, length-append v (octets l));
        stored = run_on first v (octets l) 4 at before.stored s;
      };
}

pub then_items : {d : List ℕ} {len : ℕ} {l : List Item} {a : ℕ} {e : List ℕ} {m : List Item} {b : ℕ} {f : List ℕ} → Wrote d len l a e → Wrote e a m b f → Wrote d len (l ++ m) b f
then_items {d} {len} {l} {a} {e} {m} {b} {f} p q =
    let at : 4 + a ≡ 4 + len + length (octets l) = omega (arith, p.counted) in
    let counted : b ≡ len + length (octets (l ++ m)) = simp (octets_append, length-append) (omega (arith, p.counted, q.counted)) in
    wrote counted (run_on d (octets l) (octets m) (4 + len) at p.stored q.stored ∙ ap (sets d (4 + len)) (sym (octets_append l m)))

pub wrote_as : {d : List ℕ} {len : ℕ} {l m : List Item} {n : ℕ} {e : List ℕ} → l ≡ m → Wrote d len l n e → Wrote d len m n e
wrote_as {d} {len} {l} {m} {n} {e} q p = subst (λ (x : List Item). Wrote d len x n e) q p

pub wrote_none : (d : List ℕ) (len : ℕ) → Wrote d len [] len d
unfolding octets
wrote_none d len = wrote (omega arith) refl

-- an attribute is its type and length, then its value
pub then_value : {d : List ℕ} {len k : ℕ} {v : List ℕ} {n a : ℕ} {e : List ℕ} {b : ℕ} {f : List ℕ} → n ≡ length v → e ≡ sets d (4 + len) (k ∷ two n) → a ≡ len + 3
    → f ≡ sets e (4 + a) v → b ≡ a + length v → Wrote d len (attr k v ∷ []) b f
unfolding octets attr_octets
then_value {d} {len} {k} {v} {n} {a} {e} {b} {f} q p moved r counted =
    let at : 4 + a ≡ 4 + len + length (k ∷ two n) = omega (arith, moved, length_two n) in
    wrote
    (omega (arith, moved, counted, length_items k v [], length_none))
    (run_on d (k ∷ two n) v (4 + len) at p r ∙ ap (λ (m : ℕ). sets d (4 + len) (k ∷ (two m ++ v))) q ∙ ap (sets d (4 + len)) (sym (append-nil (k ∷ (two (length v) ++ v)))))

-- a compound's inside goes on from its type and length, and after the compound the length so far is what it is after the inside
pub then_inside : {d : List ℕ} {len k n a : ℕ} {e : List ℕ} {l : List Item} {b next : ℕ} {f : List ℕ} → n ≡ length (octets l) → e ≡ sets d (4 + len) (k ∷ two n) → a ≡ len + 3
    → Wrote e a l b f → next ≡ b → Wrote d len (attr k (octets l) ∷ []) next f
then_inside q p moved w same = then_value q p moved w.stored (same ∙ w.counted)

-- from the first attribute on, the length so far is as many as the octets of all attributes that were put
pub kept : {d : List ℕ} {l : List Item} {n : ℕ} {e : List ℕ} → Wrote d 0 l n e → n ≡ length (octets l)
kept {d} p = (p.so_far d [] (record { counted = refl; stored = refl })).counted

-- ---- the head is put last: stores at lower places may as well be made first
set_past : (ys l : List ℕ) (i a j : ℕ) → i < j → sets (set l i a) j ys ≡ set (sets l j ys) i a
set_past [] l i a j h = refl
set_past (y ∷ ys) l i a j h =
    ap (λ (m : List ℕ). sets m (suc j) ys) (set_comm l i j a y (λ e. omega (arith, e, h))) ∙ set_past ys (set l j y) i a (suc j) (omega arith)

sets_past : (xs ys l : List ℕ) (i j : ℕ) → i + length xs ≤ j → sets (sets l j ys) i xs ≡ sets (sets l i xs) j ys
sets_past [] ys l i j h = refl
sets_past (x ∷ xs) ys l i j h =
    ap (λ (m : List ℕ). sets m (suc i) xs) (sym (set_past ys l i x j (omega arith))) ∙ sets_past xs ys (set l i x) (suc i) j (omega arith)

-- a head of four octets put before attributes that stand behind it
pub head_last : {d : List ℕ} {l : List Item} {n : ℕ} {e : List ℕ} (code identifier m : ℕ) → Wrote d 0 l n e
    → sets e 0 (head_octets_of code identifier m) ≡ sets d 0 (head_octets_of code identifier m ++ octets l)
unfolding two
head_last {d} {l} {n} {e} code identifier m p =
    let h = head_octets_of code identifier m in
    ap (λ (x : List ℕ). sets x 0 h) p.stored ∙ sets_past h (octets l) d 0 4 (omega arith) ∙ sym (sets_append h (octets l) d 0)
