-- `replay_apply::apply::apply` meets its contract.
use mathlib.Core.Path.{refl}
use Rattle.replay_read.specs.declared.calls.Kind.TheVariants.{List as KindList, Clock, Established, Reauth, Up, Down, SealDown, SealUp, OpenUp, OpenDown, SealDownFrame, SealUpFrame, OpenUpFrame, OpenDownFrame}
use Rattle.replay_apply.proofs.ApplyLaws.{applies_as}
use Rattle.replay_apply.proofs.apply.apply.Goals as goal

pub returns-in-List : goal.returns-in-List
returns-in-List c = let a = c.args in
    let done = c.apply_list in
    applies_as a.e a.c a.octets.now a.auth.now a.read.now a.write.now a.tek.now a.vector.now a.out.now a.frame.now KindList _ _ _ _ _ c.in-List.is (done.ensures, refl, refl, refl, refl)

pub returns-in-Clock : goal.returns-in-Clock
returns-in-Clock c = let a = c.args in
    let done = c.apply_clock in
    applies_as a.e a.c a.octets.now a.auth.now a.read.now a.write.now a.tek.now a.vector.now a.out.now a.frame.now Clock _ _ _ _ _ c.in-Clock.is (done.ensures.0, refl, refl, done.ensures.1, refl)

pub returns-in-Established : goal.returns-in-Established
returns-in-Established c = let a = c.args in
    let done = c.apply_established in
    applies_as a.e a.c a.octets.now a.auth.now a.read.now a.write.now a.tek.now a.vector.now a.out.now a.frame.now Established _ _ _ _ _ c.in-Established.is (done.ensures.0, refl, refl, done.ensures.1, refl)

pub returns-in-Reauth : goal.returns-in-Reauth
returns-in-Reauth c = let a = c.args in
    let done = c.apply_reauth in
    applies_as a.e a.c a.octets.now a.auth.now a.read.now a.write.now a.tek.now a.vector.now a.out.now a.frame.now Reauth _ _ _ _ _ c.in-Reauth.is (done.ensures.0, refl, refl, done.ensures.1, refl)

pub returns-in-Up : goal.returns-in-Up
returns-in-Up c = let a = c.args in
    let done = c.apply_up in
    applies_as a.e a.c a.octets.now a.auth.now a.read.now a.write.now a.tek.now a.vector.now a.out.now a.frame.now Up _ _ _ _ _ c.in-Up.is (done.ensures.0, refl, refl, done.ensures.1, refl)

pub returns-in-Down : goal.returns-in-Down
returns-in-Down c = let a = c.args in
    let done = c.apply_down in
    applies_as a.e a.c a.octets.now a.auth.now a.read.now a.write.now a.tek.now a.vector.now a.out.now a.frame.now Down _ _ _ _ _ c.in-Down.is (done.ensures.0, refl, refl, done.ensures.1, refl)

pub returns-in-SealDown : goal.returns-in-SealDown
returns-in-SealDown c = let a = c.args in
    let done = c.apply_seal_down in
    applies_as a.e a.c a.octets.now a.auth.now a.read.now a.write.now a.tek.now a.vector.now a.out.now a.frame.now SealDown _ _ _ _ _ c.in-SealDown.is (done.ensures.0, done.ensures.1, done.ensures.2, refl, refl)

pub returns-in-SealUp : goal.returns-in-SealUp
returns-in-SealUp c = let a = c.args in
    let done = c.apply_seal_up in
    applies_as a.e a.c a.octets.now a.auth.now a.read.now a.write.now a.tek.now a.vector.now a.out.now a.frame.now SealUp _ _ _ _ _ c.in-SealUp.is (done.ensures.0, done.ensures.1, done.ensures.2, refl, refl)

pub returns-in-OpenUp : goal.returns-in-OpenUp
returns-in-OpenUp c = let a = c.args in
    let done = c.apply_open_up in
    applies_as a.e a.c a.octets.now a.auth.now a.read.now a.write.now a.tek.now a.vector.now a.out.now a.frame.now OpenUp _ _ _ _ _ c.in-OpenUp.is (done.ensures.0, done.ensures.1, done.ensures.2, done.ensures.3, refl)

pub returns-in-OpenDown : goal.returns-in-OpenDown
returns-in-OpenDown c = let a = c.args in
    let done = c.apply_open_down in
    applies_as a.e a.c a.octets.now a.auth.now a.read.now a.write.now a.tek.now a.vector.now a.out.now a.frame.now OpenDown _ _ _ _ _ c.in-OpenDown.is (done.ensures.0, done.ensures.1, done.ensures.2, done.ensures.3, refl)

pub returns-in-SealDownFrame : goal.returns-in-SealDownFrame
returns-in-SealDownFrame c = let a = c.args in
    let done = c.apply_seal_down_frame in
    applies_as a.e a.c a.octets.now a.auth.now a.read.now a.write.now a.tek.now a.vector.now a.out.now a.frame.now SealDownFrame _ _ _ _ _ c.in-SealDownFrame.is (done.ensures.0, refl, refl, refl, done.ensures.1)

pub returns-in-SealUpFrame : goal.returns-in-SealUpFrame
returns-in-SealUpFrame c = let a = c.args in
    let done = c.apply_seal_up_frame in
    applies_as a.e a.c a.octets.now a.auth.now a.read.now a.write.now a.tek.now a.vector.now a.out.now a.frame.now SealUpFrame _ _ _ _ _ c.in-SealUpFrame.is (done.ensures.0, refl, refl, refl, done.ensures.1)

pub returns-in-OpenUpFrame : goal.returns-in-OpenUpFrame
returns-in-OpenUpFrame c = let a = c.args in
    let done = c.apply_open_up_frame in
    applies_as a.e a.c a.octets.now a.auth.now a.read.now a.write.now a.tek.now a.vector.now a.out.now a.frame.now OpenUpFrame _ _ _ _ _ c.in-OpenUpFrame.is (done.ensures.0, refl, refl, done.ensures.2, done.ensures.1)

pub returns-in-OpenDownFrame : goal.returns-in-OpenDownFrame
returns-in-OpenDownFrame c = let a = c.args in
    let done = c.apply_open_down_frame in
    applies_as a.e a.c a.octets.now a.auth.now a.read.now a.write.now a.tek.now a.vector.now a.out.now a.frame.now OpenDownFrame _ _ _ _ _ c.in-OpenDownFrame.is (done.ensures.0, refl, refl, done.ensures.2, done.ensures.1)
