-- `message_parts::lengths::body_len` meets its contract.
use Prim.Native.Nat.{ℕ, ◌+◌}
use mathlib.Core.Path.{◌≡◌, ap, ◌∙◌}
use native.Mathlib.Omega.{arith}
use lib.ListN.{length}
use Rattle.message_rules.specs.Writing.{params_items_of}
use Rattle.message_rules.specs.Attributes.{octets}
use Rattle.message_parts.proofs.CodeLaws.{key_short, last_code, length_4, length_5, length_6, length_7, length_8, length_9, length_10, length_11, length_12}
use Rattle.message_parts.proofs.lengths.body_len.Goals as goal

pub returns-in-4 : goal.returns-in-4
returns-in-4 c = record { body_length = length_4 c.args.f c.args.key.now c.in-4.is; upper_bound = omega arith }

pub returns-in-5 : goal.returns-in-5
returns-in-5 c = let f = c.args.f in
    let key = c.args.key.now in record {
      body_length = λ digest l. ap (λ (k : ℕ). 3 + length key + 11 + k) c.descriptors_len.ensures.0 ∙ length_5 f key c.in-5.is digest l;
      upper_bound = omega (arith, key_short f (length key) c.in-5.is c.requires.key);
    }

pub returns-in-6 : goal.returns-in-6
returns-in-6 c = record { body_length = length_6 c.args.f c.args.key.now c.in-6.is; upper_bound = omega arith }

pub returns-in-7 : goal.returns-in-7
returns-in-7 c = record { body_length = length_7 c.args.f c.args.key.now c.in-7.is; upper_bound = omega arith }

pub returns-in-8 : goal.returns-in-8
returns-in-8 c = let f = c.args.f in record {
  body_length = λ digest l.
      ap (λ (k : ℕ). 38 + k + c.params_len-in-8.result) c.params_len.ensures.0
      ∙ ap (λ (k : ℕ). 38 + length (octets (params_items_of f.older)) + k) c.params_len-in-8.ensures.0
      ∙ length_8 f c.args.key.now c.in-8.is digest l;
  upper_bound = omega arith;
}

pub returns-in-9 : goal.returns-in-9
returns-in-9 c = record { body_length = length_9 c.args.f c.args.key.now c.in-9.is; upper_bound = omega arith }

pub returns-in-10 : goal.returns-in-10
returns-in-10 c = record { body_length = length_10 c.args.f c.args.key.now c.in-10.is; upper_bound = omega arith }

pub returns-in-11 : goal.returns-in-11
returns-in-11 c = record { body_length = length_11 c.args.f c.args.key.now c.in-11.is; upper_bound = omega arith }

pub returns-in_default : goal.returns-in_default
returns-in_default c = let r = c.in_default.in_default-own.rest in
    let e : c.args.f.code ≡ 12 = last_code c.requires.low c.requires.high r.0.0.0.0.0.0.0.1 r.0.0.0.0.0.0.1 r.0.0.0.0.0.1 r.0.0.0.0.1 r.0.0.0.1 r.0.0.1 r.0.1 r.1 in
    record { body_length = length_12 c.args.f c.args.key.now e; upper_bound = omega arith }
