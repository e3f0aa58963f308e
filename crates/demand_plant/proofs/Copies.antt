-- What an end, a message on its way and a frame show of the keys made: a copy has a key's number and octets, and a deadline that is at most
-- D late.
use mathlib.Core.Path.{◌≡◌}
use mathlib.Core.Logic.{◌⊎◌}
use mathlib.Core.Bool.{true}
use mathlib.Core.List.{List, Memᴰ}
use Prim.Native.Nat.{ℕ, ◌+◌, ◌%◌, ◌≤◌, ◌<◌}
use lib.ListN.{take}
use Rattle.key_traffic.specs.declared.traffic.TrafficKey.{TrafficKey}
use Rattle.key_traffic.specs.Numbers.{tek_in_range_of}
use Rattle.key_traffic.specs.Suites.{width_of}
use Rattle.key_traffic.specs.Sealing.{KeyOut}
use Rattle.key_association.specs.Made.{Made}
use Rattle.message_rules.specs.declared.fields.Params.{Params}
use Rattle.message_rules.specs.declared.fields.Fields.{Fields}
use Rattle.message_rules.specs.Messages.{code_of}
use Rattle.message_rules.specs.Reading.{taken_of}
use Rattle.modem_tek.specs.declared.parts.Pair.{Pair}
use Rattle.key_traffic.specs.Addresses.{address_fits_of}
use Rattle.demand_plant.specs.World.{Frame}
use Rattle.demand_plant.specs.Run.{Did}
use Rattle.demand_plant.proofs.LogLaws.{Log, MadeIn, Grows}

-- ---- a key that the modem holds, for a SAID and a suite
pub record Copied (D : ℕ) (gs : List Log) (said suite : ℕ) (k : TrafficKey) : Type 0 where
  pub made : Made
  pub there : MadeIn gs said (width_of suite) made
  pub number : k.number.0 ≡ made.generation % 16
  pub tek : k.tek ≡ made.tek
  pub vector : k.vector ≡ made.vector
  pub late : k.deadline ≤ made.deadline + D

abbrev pub PairCopied : ℕ → List Log → ℕ → ℕ → Pair → Type 0
PairCopied D gs said suite p = Copied D gs said suite p.older × Copied D gs said suite p.newer

-- ---- TEK-Parameters that were sent at second r
pub record ParamsSent (gs : List Log) (r said : ℕ) (p : Params) : Type 0 where
  pub made : Made
  pub there : MadeIn gs said p.tek.width made
  pub number : p.number.0 ≡ made.generation % 16
  pub tek : p.tek.octets ≡ made.tek
  pub vector : p.vector.octets ≡ made.vector
  pub life : r + p.life ≡ made.deadline

abbrev pub ReplySent : List Log → ℕ → Fields → Type 0
ReplySent gs r f = ParamsSent gs r f.said f.older × ParamsSent gs r f.said f.newer

-- Every message that a step put out for the modem and that has the code of a Key Reply shows keys made
abbrev pub PutOk : List Log → Did → Type 0
PutOk gs a = (octets : List ℕ) → Memᴰ octets a.given.put → code_of octets ≡ 8 → ReplySent gs a.clock (taken_of octets).fields

-- ---- a frame sealed at second s
abbrev pub out_of : ℕ → Made → KeyOut
out_of wide k = record { tek = take wide k.tek; vector = take wide k.vector }

-- Down, with the head-end's older key then; up, with a key that the modem held, under its own address
abbrev pub SealedWhen : ℕ → ℕ → ℕ → ℕ → Frame → Made → Type 0
SealedWhen D half own s f k =
    ((f.direction ≡ 1) × (s < k.deadline) × (k.deadline ≤ s + half))
    ⊎ ((f.direction ≡ 0) × (s < k.deadline + D) × (f.address ≡ own))

pub record FrameOk (D half own : ℕ) (gs : List Log) (s : ℕ) (f : Frame) : Type 0 where
  pub made : Made
  pub wide : ℕ
  pub there : MadeIn gs f.said wide made
  pub number : f.number.0 ≡ made.generation % 16
  pub out : f.out ≡ out_of wide made
  pub when : SealedWhen D half own s f made
  pub said_small : f.said ≤ 16383
  pub number_small : tek_in_range_of f.number ≡ true
  pub address_small : address_fits_of f.address ≡ true

abbrev pub SealedOk : ℕ → ℕ → ℕ → List Log → Did → Type 0
SealedOk D half own gs a = (f : Frame) → Memᴰ f a.given.sealed → FrameOk D half own gs a.clock f

-- ---- all of it stays as more keys are made
module _ (gs hs : List Log) (grows : Grows gs hs) where
  copied_grows : (D said suite : ℕ) (k : TrafficKey) → Copied D gs said suite k → Copied D hs said suite k
  copied_grows D said suite k c =
      record {
        made = c.made;
        there = grows said (width_of suite) c.made c.there;
        number = c.number;
        tek = c.tek;
        vector = c.vector;
        late = c.late;
      }

  pub pair_grows : (D said suite : ℕ) (p : Pair) → PairCopied D gs said suite p → PairCopied D hs said suite p
  pair_grows D said suite p c = (copied_grows D said suite p.older c.0, copied_grows D said suite p.newer c.1)

  params_grow : (r said : ℕ) (p : Params) → ParamsSent gs r said p → ParamsSent hs r said p
  params_grow r said p c =
      record {
        made = c.made;
        there = grows said p.tek.width c.made c.there;
        number = c.number;
        tek = c.tek;
        vector = c.vector;
        life = c.life;
      }

  pub put_grows : (a : Did) → PutOk gs a → PutOk hs a
  put_grows a ok octets i e =
      let c = ok octets i e in
      let f = (taken_of octets).fields in
      (params_grow a.clock f.said f.older c.0, params_grow a.clock f.said f.newer c.1)

  pub sealed_grows : (D half own : ℕ) (a : Did) → SealedOk D half own gs a → SealedOk D half own hs a
  sealed_grows D half own a ok f i =
      let c = ok f i in
      record {
        made = c.made;
        wide = c.wide;
        there = grows f.said c.wide c.made c.there;
        number = c.number;
        out = c.out;
        when = c.when;
        said_small = c.said_small;
        number_small = c.number_small;
        address_small = c.address_small;
      }
