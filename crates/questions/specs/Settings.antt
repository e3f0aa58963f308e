-- The settings and their limits (document 01, "Settings").
use Rattle.std.specs.Prelude.{Bool, ◌&&◌, ℕ, ◌/◌, ◌%◌, leb, ltb, eqb}
use Rattle.questions.specs.declared.settings.TekTimes.{TekTimes}
use Rattle.questions.specs.declared.settings.AkTimes.{AkTimes}
use Rattle.questions.specs.declared.settings.Waits.{Waits}
use Rattle.questions.specs.declared.settings.Settings.{Settings}

-- H is half of the TEK lifetime
abbrev pub half_of : TekTimes → ℕ
half_of t = t.life / 2

-- The TEK lifetime is even, 1,800 to 604,800
unfoldable pub life_fits_of : ℕ → Bool
life_fits_of life = eqb (life % 2) 0 && leb 1800 life && leb life 604800

-- The TEK grace is 300 to H - 1
unfoldable pub tek_times_fit_of : TekTimes → Bool
tek_times_fit_of t = life_fits_of t.life && leb 300 t.grace && ltb t.grace (half_of t)

-- The authorization key's lifetime A is 86,400 to 6,048,000; the grace 300 to A / 2
unfoldable pub ak_times_fit_of : AkTimes → Bool
ak_times_fit_of t = leb 86400 t.life && leb t.life 6048000 && leb 300 t.grace && leb t.grace (t.life / 2)

-- A wait is 1 to 600 seconds
unfoldable pub wait_fits_of : ℕ → Bool
wait_fits_of seconds = leb 1 seconds && leb seconds 600

unfoldable pub waits_fit_of : Waits → Bool
waits_fit_of w =
    wait_fits_of w.authorize
    && wait_fits_of w.reauthorize
    && wait_fits_of w.operational
    && wait_fits_of w.rekey
    && wait_fits_of w.reject

unfoldable pub settings_fit_of : Settings → Bool
settings_fit_of s = tek_times_fit_of s.tek && ak_times_fit_of s.ak && waits_fit_of s.waits

-- Settings that are all zero; they are not within the limits
abbrev pub no_settings_of : Settings
no_settings_of =
    record {
      tek = record { life = 0; grace = 0 };
      ak = record { life = 0; grace = 0 };
      waits = record { authorize = 0; reauthorize = 0; operational = 0; rekey = 0; reject = 0 };
    }
