-- What holds of the two ends and the trace at every step of a list that counts, and how a step goes on with it.
use mathlib.Core.Path.{◌≡◌, sym, subst}
use mathlib.Core.Bool.{true}
use mathlib.Core.List.{List, [], ◌∷◌, ◌++◌, Memᴰ}
use Prim.Native.Nat.{ℕ, ◌≤◌}
use native.Mathlib.Omega.{arith}
use Rattle.questions.proofs.ListLaws.{Each, each_snoc}
use Rattle.modem_steps.specs.declared.state.Modem.{Modem}
use Rattle.modem_steps.specs.State.{slot_at}
use Rattle.modem_limits.specs.Limits.{modem_fits_of}
use Rattle.modem_calls.proofs.PairSteps.{AllPairs}
use Rattle.demand_plant.specs.World.{World, Step}
use Rattle.demand_plant.specs.Run.{Did, did_of, after}
use Rattle.demand_plant.specs.KeysMade.{accepted_in}
use Rattle.demand_plant.proofs.LogLaws.{Log, Grows}
use Rattle.demand_plant.proofs.MadeRun.{logs_by}
use Rattle.demand_plant.proofs.Copies.{PairCopied, PutOk, SealedOk, pair_grows, put_grows, sealed_grows}
use Rattle.demand_plant.proofs.HeadOk.{HeadOk}

pub record Inv (D half own : ℕ) (w : World) (tr : List Did) (gs : List Log) : Type 0 where
  pub head : HeadOk half w.head w.records gs
  pub fits : modem_fits_of w.modem ≡ true
  pub own_is : w.modem.address ≡ own
  pub clocks : w.modem.clock ≡ w.head.clock
  pub pairs : AllPairs (PairCopied D gs) w.modem
  pub puts : Each (PutOk gs) tr
  pub seals : Each (SealedOk D half own gs) tr
  pub past : Each (λ (a : Did). a.clock ≤ w.head.clock) tr

-- What a step leads to: logs that go on, and the same of the world and the trace after it
pub record Next (D half own : ℕ) (w : World) (tr : List Did) (gs : List Log) (s : Step) : Type 0 where
  pub logs : List Log
  pub are : logs ≡ logs_by half gs (accepted_in w s)
  pub inv : Inv D half own (after w s) (tr ++ (did_of w s ∷ [])) logs

pub pairs_grow : (D : ℕ) (gs hs : List Log) → Grows gs hs → (m : Modem) → AllPairs (PairCopied D gs) m → AllPairs (PairCopied D hs) m
pairs_grow D gs hs grows m ok i less held = pair_grows gs hs grows D (slot_at m i).said (slot_at m i).suite (slot_at m i).pair (ok i less held)

-- ---- from what a step does to each end and puts out
module _ {D half own : ℕ} {w : World} {tr : List Did} {gs : List Log} (v : Inv D half own w tr gs) (s : Step) (hs : List Log) (grows : Grows gs hs)
    (are : hs ≡ logs_by half gs (accepted_in w s)) where
  pub next_by : HeadOk half (after w s).head (after w s).records hs → modem_fits_of (after w s).modem ≡ true → (after w s).modem.address ≡ own
      → (after w s).modem.clock ≡ (after w s).head.clock → AllPairs (PairCopied D hs) (after w s).modem → PutOk hs (did_of w s) → SealedOk D half own hs (did_of w s)
      → w.head.clock ≤ (after w s).head.clock → Next D half own w tr gs s
  next_by head fits own_is clocks pairs put sealed later =
      record {
        logs = hs;
        are = are;
        inv = record {
          head = head;
          fits = fits;
          own_is = own_is;
          clocks = clocks;
          pairs = pairs;
          puts = each_snoc (PutOk hs) tr (did_of w s) (λ a i. put_grows gs hs grows a (v.puts a i)) put;
          seals = each_snoc (SealedOk D half own hs) tr (did_of w s) (λ a i. sealed_grows gs hs grows D half own a (v.seals a i)) sealed;
          past = each_snoc (λ (a : Did). a.clock ≤ (after w s).head.clock) tr (did_of w s) (λ a i. omega (arith, v.past a i, later)) (omega arith);
        };
      }

  -- the same, where the world after the step has another name
  pub next_to : (x : World) → after w s ≡ x → HeadOk half x.head x.records hs → modem_fits_of x.modem ≡ true → x.modem.address ≡ own
      → x.modem.clock ≡ x.head.clock → AllPairs (PairCopied D hs) x.modem → PutOk hs (did_of w s) → SealedOk D half own hs (did_of w s)
      → w.head.clock ≤ x.head.clock → Next D half own w tr gs s
  next_to x e head fits own_is clocks pairs put sealed later =
      next_by (subst (λ (y : World). HeadOk half y.head y.records hs) (sym e) head)
      (subst (λ (y : World). modem_fits_of y.modem ≡ true) (sym e) fits)
      (subst (λ (y : World). y.modem.address ≡ own) (sym e) own_is)
      (subst (λ (y : World). y.modem.clock ≡ y.head.clock) (sym e) clocks)
      (subst (λ (y : World). AllPairs (PairCopied D hs) y.modem) (sym e) pairs)
      put sealed
      (subst (λ (y : World). w.head.clock ≤ y.head.clock) (sym e) later)

-- a step that puts out and seals nothing
pub nothing_put : (hs : List Log) (d : Did) → d.given.put ≡ [] → PutOk hs d
nothing_put hs d e octets i = elim (subst (Memᴰ octets) e i) [ ]

pub nothing_sealed : (D half own : ℕ) (hs : List Log) (d : Did) → d.given.sealed ≡ [] → SealedOk D half own hs d
nothing_sealed D half own hs d e f i = elim (subst (Memᴰ f) e i) [ ]
