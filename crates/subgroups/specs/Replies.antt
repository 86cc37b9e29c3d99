-- What answers become for C: plain numbers, number 0 where nothing is refused, and 0 for what does not apply.
--   finite_of i, index_of i == 1 and a finite index, or 0 and 0
--   reply_of o        == the figures of a fold
--   checked_reply c   == edges, rank and index of a table
--   yes_reply a       == 1 for yes (inside, equal, normal), 0 for no
--   expressed_reply e == 1 and how many numbers for a member, 0 for another query
--   basis_reply a     == the words and bytes of a basis
--   saved_reply s     == the bytes of a file
--   loaded_reply l    == a table, kind 1, or a list, kind 2
--   handed_reply w a b == which of the lists a and b, and its bytes
-- Cited by `Outcomes` and by the conversions of answers into replies. Assumes nothing.
use Rattle.std.specs.Prelude.{Bool, cond, List, ℕ, length}
use Rattle.std.specs.declared.option.Option.{Option}
use Rattle.std.specs.declared.option.Option.TheVariants.{None, Some}
use Rattle.std.specs.declared.result.Result.{Result}
use Rattle.std.specs.declared.result.Result.TheVariants.{Ok, Err}
use Rattle.refusals.specs.declared.Refusal.{Refusal}
use Rattle.refusals.specs.Given.{number_of}
use Rattle.lists.specs.declared.TextSize.{TextSize}
use Rattle.lists.specs.declared.Which.{Which}
use Rattle.lists.specs.declared.Which.TheVariants.{First, Second, Neither}
use Rattle.tables.specs.declared.Figures.{Figures}
use Rattle.folds.specs.declared.FoldFigures.{FoldFigures}
use Rattle.loads.specs.declared.Loaded.{Loaded}
use Rattle.loads.specs.declared.Loaded.TheVariants.{Table as TableLoaded, List as ListLoaded}
use Rattle.subgroups.specs.declared.FoldReply.{FoldReply}
use Rattle.subgroups.specs.declared.CheckReply.{CheckReply}
use Rattle.subgroups.specs.declared.YesReply.{YesReply}
use Rattle.subgroups.specs.declared.ExpressReply.{ExpressReply}
use Rattle.subgroups.specs.declared.WrittenReply.{WrittenReply}
use Rattle.subgroups.specs.declared.LoadReply.{LoadReply}
use Rattle.subgroups.specs.declared.PartReply.{PartReply}

abbrev pub finite_of : Option ℕ → ℕ
finite_of (Some k) = 1
finite_of None = 0

abbrev pub index_of : Option ℕ → ℕ
index_of (Some k) = k
index_of None = 0

abbrev pub refused_reply : Refusal → FoldReply
refused_reply r =
    record {
      number = number_of r.cause;
      place = r.place;
      points = 0;
      edges = 0;
      rank = 0;
      finite = 0;
      index = 0;
      start_points = 0;
      start_edges = 0;
      merging = 0;
      closing = 0;
    }

abbrev pub made_reply : FoldFigures → FoldReply
made_reply f =
    record {
      number = 0;
      place = 0;
      points = f.points;
      edges = f.counts.edges;
      rank = f.counts.rank;
      finite = finite_of f.counts.index;
      index = index_of f.counts.index;
      start_points = f.start.points;
      start_edges = f.start.edges;
      merging = f.merging;
      closing = f.closing;
    }

abbrev pub reply_of : Result FoldFigures Refusal → FoldReply
reply_of (Err r) = refused_reply r
reply_of (Ok f) = made_reply f

-- ── Tables ──

abbrev pub counted_reply : Figures → CheckReply
counted_reply f =
    record { number = 0; place = 0; edges = f.edges; rank = f.rank; finite = finite_of f.index; index = index_of f.index }

abbrev pub checked_reply : Result Figures Refusal → CheckReply
checked_reply (Err r) = record { number = number_of r.cause; place = r.place; edges = 0; rank = 0; finite = 0; index = 0 }
checked_reply (Ok f) = counted_reply f

-- ── Yes or no ──

abbrev pub yes_reply : Result Bool Refusal → YesReply
yes_reply (Err r) = record { number = number_of r.cause; place = r.place; yes = 0 }
yes_reply (Ok b) = record { number = 0; place = 0; yes = cond b 1 0 }

abbrev pub expressed_reply : Result (Option ℕ) Refusal → ExpressReply
expressed_reply (Err r) = record { number = number_of r.cause; place = r.place; yes = 0; count = 0 }
expressed_reply (Ok (Some k)) = record { number = 0; place = 0; yes = 1; count = k }
expressed_reply (Ok None) = record { number = 0; place = 0; yes = 0; count = 0 }

-- ── What is written ──

abbrev pub refused_writing : Refusal → WrittenReply
refused_writing r = record { number = number_of r.cause; place = r.place; words = 0; bytes = 0 }

abbrev pub wrote : ℕ → ℕ → WrittenReply
wrote words bytes = record { number = 0; place = 0; words = words; bytes = bytes }

abbrev pub basis_reply : Result TextSize Refusal → WrittenReply
basis_reply (Err r) = refused_writing r
basis_reply (Ok size) = wrote size.words size.bytes

abbrev pub saved_reply : Result ℕ Refusal → WrittenReply
saved_reply (Err r) = refused_writing r
saved_reply (Ok bytes) = wrote 0 bytes

-- ── What is loaded ──

abbrev pub loaded_reply : Result Loaded Refusal → LoadReply
loaded_reply (Err r) =
    record { number = number_of r.cause; place = r.place; kind = 0; n = 0; points = 0; words = 0; bytes = 0 }
loaded_reply (Ok (TableLoaded n N)) =
    record { number = 0; place = 0; kind = 1; n = n; points = N; words = 0; bytes = 0 }
loaded_reply (Ok (ListLoaded n size)) =
    record { number = 0; place = 0; kind = 2; n = n; points = 0; words = size.words; bytes = size.bytes }

-- ── Which list ──

abbrev pub handed_reply : Which → List ℕ → List ℕ → PartReply
handed_reply First a b = record { which = 1; bytes = length a }
handed_reply Second a b = record { which = 2; bytes = length b }
handed_reply Neither a b = record { which = 0; bytes = 0 }
