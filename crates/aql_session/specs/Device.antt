-- What a device of a run told and counted, before calls on it and after them.
use Rattle.std.specs.Prelude.{◌≡◌, ℕ, List, Option}
use Rattle.aql_outside.specs.Causes.{Blames}
use Rattle.aql_outside.specs.Contents.{Content}
use Rattle.aql_outside.specs.declared.device.Source as source
use Rattle.aql_outside.specs.declared.device.Sink as sink
use Rattle.aql_outside.specs.declared.device.Files as files

-- What a device told, and how many calls on it had failed, before and after; that it is as before; and that its calls which end well leave
-- the count of those that failed.
pub record Device (T : Type 0) : Type 1 where
  pub before : T
  pub after : T
  pub faults_before : ℕ
  pub faults_after : ℕ
  pub same : Type 0
  pub quiet : Type 0

-- a source, which tells what is left of it
abbrev pub source_of : {S : Type 0} → source.Ghosts S → (old new : S) → Device (Option (List ℕ))
source_of s old new = record {
  before = s.left old;
  after = s.left new;
  faults_before = s.faults old;
  faults_after = s.faults new;
  same = new ≡ old;
  quiet = s.quiet;
}

-- a sink, which tells what it took
abbrev pub sink_of : {O : Type 0} → sink.Ghosts O → (old new : O) → Device (Option (List ℕ))
sink_of o old new = record {
  before = o.holds old;
  after = o.holds new;
  faults_before = o.faults old;
  faults_after = o.faults new;
  same = new ≡ old;
  quiet = o.quiet;
}

-- files, which tell what they hold
abbrev pub files_of : {F : Type 0} → files.Ghosts F → (old new : F) → Device (Option Content)
files_of f old new = record {
  before = f.holds old;
  after = f.holds new;
  faults_before = f.faults old;
  faults_after = f.faults new;
  same = new ≡ old;
  quiet = f.quiet;
}

-- a source's count of faults did not fall, rose where it is blamed, and where it is quiet is greater only there
abbrev pub BlamesSource : {S : Type 0} → source.Ghosts S → (old new : S) → (blamed : Type 0) → Type 0
BlamesSource s old new blamed = Blames s.quiet blamed (s.faults old) (s.faults new)

-- the same of the count of a sink
abbrev pub BlamesSink : {O : Type 0} → sink.Ghosts O → (old new : O) → (blamed : Type 0) → Type 0
BlamesSink o old new blamed = Blames o.quiet blamed (o.faults old) (o.faults new)

-- the same of the count of files
abbrev pub BlamesFiles : {F : Type 0} → files.Ghosts F → (old new : F) → (blamed : Type 0) → Type 0
BlamesFiles f old new blamed = Blames f.quiet blamed (f.faults old) (f.faults new)
