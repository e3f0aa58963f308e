-- `message_writer::message::put_front` meets its contract.
use mathlib.Core.Path.{◌≡◌}
use mathlib.Core.Logic.{⊎_elim, inl, inr}
use native.Mathlib.Omega.{arith}
use Rattle.message_parts.proofs.CodeLaws.{key_short, last_code, front_4, front_5, front_6, front_7, front_8, front_9, front_10, front_11, front_12}
use Rattle.message_parts.proofs.Stores.{wrote_as, wrote_none}
use Rattle.message_writer.proofs.message.put_front.Goals as goal

pub put_reply-requires : goal.put_reply-requires
put_reply-requires c = key_short c.args.f _ c.in-5.is c.requires.key

pub returns-in-4 : goal.returns-in-4
returns-in-4 c = record { wrote = wrote_as (front_4 c.args.f c.args.auth.now c.in-4.is) c.put_two.ensures.wrote; upper_bound = omega arith }

pub returns-in-5 : goal.returns-in-5
returns-in-5 c = record { wrote = wrote_as (front_5 c.args.f c.args.auth.now c.in-5.is) c.put_reply.ensures.wrote; upper_bound = omega arith }

pub returns-in-6 : goal.returns-in-6
returns-in-6 c = let a = c.args in record {
  wrote = ⊎_elim (λ e. wrote_as (front_6 a.f a.auth.now e) c.put_one.ensures.wrote) (λ e. wrote_as (front_10 a.f a.auth.now e) c.put_one.ensures.wrote) c.in-6.is;
  upper_bound = omega arith;
}

pub returns-in-7 : goal.returns-in-7
returns-in-7 c = record { wrote = wrote_as (front_7 c.args.f c.args.auth.now c.in-7.is) c.put_named.ensures.wrote; upper_bound = omega arith }

pub returns-in-8 : goal.returns-in-8
returns-in-8 c = record { wrote = wrote_as (front_8 c.args.f c.args.auth.now c.in-8.is) c.put_key_reply.ensures.wrote; upper_bound = omega arith }

pub returns-in-9 : goal.returns-in-9
returns-in-9 c = let a = c.args in record {
  wrote = ⊎_elim (λ e. wrote_as (front_9 a.f a.auth.now e) c.put_key_error.ensures.wrote) (λ e. wrote_as (front_11 a.f a.auth.now e) c.put_key_error.ensures.wrote) c.in-9.is;
  upper_bound = omega arith;
}

pub returns-in_default : goal.returns-in_default
returns-in_default c = let r = c.in_default.in_default-own.rest in
    let e : c.args.f.code ≡ 12 = last_code c.requires.low c.requires.high r.0.0.0.0.0.1 r.0.0.0.0.1 (λ e. r.0.0.0.1 (inl e)) r.0.0.1 r.0.1 (λ e. r.1 (inl e)) (λ e. r.0.0.0.1 (inr e)) (λ e. r.1 (inr e)) in
    record { wrote = wrote_as (front_12 c.args.f c.args.auth.now e) (wrote_none _ 0); upper_bound = omega arith }
