-- Times that are set, unit by unit.
use Rattle.std.specs.Prelude.{◌≡◌, ℕ, ◌*◌, ◌≤◌, Bool, true, false, ◌||◌, List, Some, None, Ok, Err, Option, Result, replicate, slice_index_or, slice_set, IsSome, ◌==◌, ⊤, refl}
use Rattle.job_rack.specs.Units.{job_time, double_fits}
use Rattle.job_rack.specs.declared.settings.NotSet.{NotSet}
use Rattle.job_rack.specs.declared.settings.NotSet.TheVariants.{NoUnit, SetBefore}

-- the units of a job: tapes 0 and 1, disk 8, reader, punch and printer
abbrev pub is_job_unit : ℕ → Bool
is_job_unit u = u == 0 || u == 1 || u == 8 || u == 16 || u == 17 || u == 18

-- the times that are set, by the numbers of the units: at first none is
abbrev pub no_settings : List (Option ℕ)
no_settings = replicate 19 None

-- each fits what tells it
abbrev pub Small : List (Option ℕ) → Type 0
Small set = (u t : ℕ) → slice_index_or set u None ≡ Some t → t ≤ 65535

-- the time of a unit: the one that is set for it, or else double its time in a job
abbrev pub time_or : ℕ → Option ℕ → ℕ
time_or u None = 2 * job_time u
time_or u (Some t) = t

abbrev pub time_set : List (Option ℕ) → ℕ → ℕ
time_set set u = time_or u (slice_index_or set u None)

-- what comes of setting a unit's time: it is a unit of a job that had none, and now has it, and no other alters;
-- or nothing is altered
abbrev pub Sets : List (Option ℕ) → ℕ → ℕ → List (Option ℕ) → Result ⊤ NotSet → Type 0
Sets old u t new (Ok x) = (is_job_unit u ≡ true) × (slice_index_or old u None ≡ None) × (new ≡ slice_set old u (Some t))
Sets old u t new (Err NoUnit) = (is_job_unit u ≡ false) × (new ≡ old)
Sets old u t new (Err SetBefore) = (is_job_unit u ≡ true) × IsSome (slice_index_or old u None) × (new ≡ old)

-- it is one that a rack may tell
pub settings_fit : (set : List (Option ℕ)) → Small set → (u : ℕ) → time_set set u ≤ 65535
settings_fit set h u = at (slice_index_or set u None) (h u)
  where
    at : (o : Option ℕ) → ((t : ℕ) → o ≡ Some t → t ≤ 65535) → time_or u o ≤ 65535
    at None k = double_fits u
    at (Some t) k = k t refl
