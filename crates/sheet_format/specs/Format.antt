-- The bytes of a job sheet: the labels, the records, the trailer (requirements, S).
use Rattle.std.specs.Prelude.{List, [], ◌∷◌, ◌++◌, ℕ, ◌+◌, ◌-◌, ◌*◌, length, get_or, take, drop, replicate}
use Rattle.counting.specs.Counting.{sum, joined}
use Rattle.words.specs.Words.{byte_at, u16_at, u32_at, bytes_of}
use Rattle.sheet_format.specs.declared.Job.{Job}
use Rattle.sheet_format.specs.Figures.{most_jobs, record_size, trailer_size}
use Rattle.sheet_format.specs.declared.Cabinet.{Cabinet}

-- ---- a record: label length (1 byte), modules needed (1), minutes (2), earlier jobs (4), departure (2), arrival (2)

abbrev pub label_length : Job → ℕ
label_length j = j.label_len

unfoldable pub record_at : List ℕ → ℕ → Job
record_at s at = record {
  label_len = byte_at s at;
  modules = byte_at s (at + 1);
  minutes = u16_at s (at + 2);
  earlier = u32_at s (at + 4);
  departure = u16_at s (at + 8);
  arrival = u16_at s (at + 10);
}

unfoldable pub record_bytes : Job → List ℕ
record_bytes j =
    label_length j ∷ j.modules
    ∷ (bytes_of 2 j.minutes ++ (bytes_of 4 j.earlier ++ (bytes_of 2 j.departure ++ bytes_of 2 j.arrival)))

-- the empty record that stands in the places past the last job
abbrev pub no_job : Job
no_job = record { label_len = 0; modules = 0; minutes = 0; earlier = 0; departure = 0; arrival = 0 }

-- ---- the trailer: offset of the first record (4 bytes), n (2), modules N in the cabinet (2), changeover (2)

abbrev pub trailer_at : List ℕ → ℕ
trailer_at s = length s - trailer_size

abbrev pub offset_of : List ℕ → ℕ
offset_of s = u32_at s (trailer_at s)

abbrev pub count_of : List ℕ → ℕ
count_of s = u16_at s (trailer_at s + 4)

abbrev pub modules_of : List ℕ → ℕ
modules_of s = u16_at s (trailer_at s + 6)

abbrev pub changeover_of : List ℕ → ℕ
changeover_of s = u16_at s (trailer_at s + 8)

-- what a sheet says of the cabinet
abbrev pub cabinet : ℕ → ℕ → Cabinet
cabinet modules changeover = record { modules = modules; changeover = changeover }

abbrev pub cabinet_of : List ℕ → Cabinet
cabinet_of s = cabinet (modules_of s) (changeover_of s)

unfoldable pub trailer_bytes : ℕ → ℕ → Cabinet → List ℕ
trailer_bytes offset n C = bytes_of 4 offset ++ (bytes_of 2 n ++ (bytes_of 2 C.modules ++ bytes_of 2 C.changeover))

-- ---- a sheet: the labels one after another from offset 0, then n records, then the trailer

-- the sum of the label lengths of the first n jobs
abbrev pub label_lengths : ℕ → (ℕ → Job) → ℕ
label_lengths n jobs = sum n (λ i. label_length (jobs i))

-- the label of job i, cut from the labels run together
abbrev pub label_in : (ℕ → Job) → List ℕ → ℕ → List ℕ
label_in jobs labels i = take (label_length (jobs i)) (drop (label_lengths i jobs) labels)

-- the job of record i, where the records begin at offset
abbrev pub job_from : List ℕ → ℕ → ℕ → Job
job_from s offset i = record_at s (offset + record_size * i)

-- the job of record i of a sheet
abbrev pub job_of : List ℕ → ℕ → Job
job_of s i = job_from s (offset_of s) i

-- the label bytes of a sheet: those before the first record
abbrev pub labels_of : List ℕ → List ℕ
labels_of s = take (offset_of s) s

-- the sheet of n jobs, their labels run together, for a cabinet
unfoldable pub sheet_bytes : (ℕ → Job) → ℕ → List ℕ → Cabinet → List ℕ
sheet_bytes jobs n labels C = labels ++ (joined n (λ i. record_bytes (jobs i)) ++ trailer_bytes (length labels) n C)

-- ---- the jobs of a list of fixed length

-- the jobs of a list, in order
abbrev pub jobs_in : List Job → ℕ → Job
jobs_in js i = get_or js i no_job

-- a list of fixed length without jobs: every figure 0
unfoldable pub no_jobs : List Job
no_jobs = replicate most_jobs no_job

-- a list of fixed length: the first n jobs, and places past the last job 0
unfoldable pub places : ℕ → (ℕ → Job) → List Job
places n jobs = joined n (λ i. jobs i ∷ []) ++ replicate (most_jobs - n) no_job
