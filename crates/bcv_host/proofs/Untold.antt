-- Calls of a disk that tells nothing: a failure is counted, and nothing more is said.
use Rattle.std.proofs.Common.{◌≡◌, ◌≢◌, ℕ, ◌≤◌, Bool, true, false, List, arith}
use Rattle.bcv_disk.specs.DiskCalls.{DiskFails, DiskReads, DiskWrites, DiskCuts, DiskSyncs}
use Rattle.bcv_disk.specs.declared.disk.DiskEnd.{DiskEnd}
use Rattle.bcv_disk.specs.declared.disk.DiskEnd.TheVariants.{Failed, NoMemory}
use Rattle.bcv_host.specs.FileShown.{tells_nothing, untold_disk, EndsAs}

module _ (done : Bool) (old new : ℕ) (result : DiskEnd) (ends : EndsAs done old new result) (later : old ≤ new) where
  fails : (b : Bool) → EndsAs b old new result → DiskFails tells_nothing (untold_disk old) (untold_disk new) (result ≡ Failed)
  fails true e = record { later = later; rose = λ failed. absurd (cc (failed, e.0)); troubles = λ told. absurd told }
  fails false e = record { later = later; rose = λ failed. omega (arith, e.1); troubles = λ told. absurd told }

  has_memory : (b : Bool) → EndsAs b old new result → result ≢ NoMemory
  has_memory true e is = cc (is, e.0)
  has_memory false e is = cc (is, e.0)

  pub reads : (at : ℕ) (into filled : List ℕ) → DiskReads tells_nothing (untold_disk old) (untold_disk new) at into filled result
  reads at into filled = record {
    answers = has_memory done ends;
    bytes = λ told. absurd told;
    seen = λ told. absurd told;
    crash = λ told. absurd told;
    fails = fails done ends;
    calls = λ told. absurd told;
  }

  pub writes : (at : ℕ) (bytes : List ℕ) → DiskWrites tells_nothing (untold_disk old) (untold_disk new) at bytes result
  writes at bytes = record {
    written = λ told. absurd told;
    grows = λ told. absurd told;
    same = λ told. absurd told;
    crash = λ told. absurd told;
    fails = fails done ends;
    calls = λ told. absurd told;
  }

  pub cuts : (len : ℕ) → DiskCuts tells_nothing (untold_disk old) (untold_disk new) len result
  cuts len = record {
    shortened = λ told. absurd told;
    grows = λ told. absurd told;
    same = λ told. absurd told;
    crash = λ told. absurd told;
    fails = fails done ends;
    calls = λ told. absurd told;
  }

  pub syncs : DiskSyncs tells_nothing (untold_disk old) (untold_disk new) result
  syncs = record {
    answers = has_memory done ends;
    durable = λ told. absurd told;
    seen = λ told. absurd told;
    grows = λ told. absurd told;
    crash = λ told. absurd told;
    fails = fails done ends;
    calls = λ told. absurd told;
  }
