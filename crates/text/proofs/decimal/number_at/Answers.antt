-- `number_at` meets its contract.
use Rattle.std.proofs.Common.{◌≡◌, length, drop, sym, ap, ◌∙◌, true, false, get_or, arith, ℕ, List, Option, ◌+◌, Some}
use native.Mathlib.Nat.{add-zero}
use Rattle.std.proofs.lemmas.List.{drop_min}
use Rattle.text.specs.Decimal.{is_digit_of}
use Rattle.text.proofs.Reading.{read_on, read_start, read_end, read_stop, read_more}
use Rattle.text.proofs.decimal.number_at.Goals as goal

pub loop-i-init : goal.loop-i-init
loop-i-init c =
    let rest : c.split_at.result.1.now ≡ drop c.args.at c.args.s.now =
    c.split_at.ensures.back ∙ ap (λ (n : ℕ). drop n c.args.s.now) c.min.ensures ∙ drop_min c.args.at c.args.s.now in
    ap (λ (n : ℕ). read_on c.args.at n (Some 0) c.split_at.result.1.now) (add-zero c.args.at)
    ∙ ap (λ (l : List ℕ). read_on c.args.at c.args.at (Some 0) l) rest
    ∙ read_start c.args.s.now c.args.at

pub returns-then-not-is_digit : goal.returns-then-not-is_digit
returns-then-not-is_digit c =
    let l = c.loop-i in
    let rest = c.split_at.result.1.now in
    let none : is_digit_of (get_or rest l.i 0) ≡ false = sym c.is_digit.ensures ∙ c.if-not-is_digit.true in
    c.number_from.ensures ∙ sym (read_stop rest c.args.at l.i l.p (omega arith) none) ∙ l.invariant

pub loop-i-preserved : goal.loop-i-preserved
loop-i-preserved c =
    let l = c.loop-i in
    let rest = c.split_at.result.1.now in
    let digit : is_digit_of (get_or rest l.i 0) ≡ true = sym c.is_digit.ensures ∙ c.if-not-is_digit.false in
    ap (λ (q : Option ℕ). read_on c.args.at (c.args.at + (l.i + 1)) q (drop (l.i + 1) rest)) c.appended-p.ensures
    ∙ sym (read_more rest c.args.at l.i l.p (omega arith) digit)
    ∙ l.invariant

pub returns : goal.returns
returns c =
    let l = c.loop-i in
    let rest = c.split_at.result.1.now in
    let all : l.i ≡ length rest = omega arith in
    c.number_from-2.ensures
    ∙ sym (read_end rest c.args.at (length rest) l.p (omega arith))
    ∙ ap (λ (n : ℕ). read_on c.args.at (c.args.at + n) l.p (drop n rest)) (sym all)
    ∙ l.invariant
