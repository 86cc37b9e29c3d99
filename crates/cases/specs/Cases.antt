-- Document 01's small graphs: one list of cases. `proofs/ExamplesHold` proves one statement over it,
-- `Every AsDocumented examples` (`Claims`).
--   examples == the printed run, the cases marked P, and four more lists that are refused: by 1, by 3, and by 4 before 3
-- The first list's words are those of 004's introduction: `first_list` has the product that reduces to aa, then the one printed there.
-- The table of a case is given; that it is the list's is part of what is shown. Assumes nothing.
use Rattle.std.specs.Prelude.{true, false, List, [], ◌∷◌, ℕ, pos, negsuc}
use Rattle.std.proofs.Math.Option.{none, some}
use Rattle.theory.specs.Texts.{bytes, word}
use Rattle.theory.specs.Tables.{absent}
use Rattle.theory.specs.Basis.{finite, infinite}
use Rattle.cases.specs.Claims.{refused, accepted, Case}

-- a list that is refused: number and place
abbrev pub turned_away : ℕ → List ℕ → ℕ → ℕ → Case
turned_away n text k p =
    record { n = n; text = text; points = 0; table = []; queries = []; products = []; generated = []; expected = refused k p }

-- the printed run: aaB, bAba, abA, aaaaaa
abbrev pub printed_run : Case
printed_run =
    record {
      n = 2;
      text = bytes "aaB\nbAba\nabA\naaaaaa\n";
      points = 2;
      table = 1 ∷ 1 ∷ 0 ∷ 0 ∷ 0 ∷ 0 ∷ 1 ∷ 1 ∷ [];
      queries = "aba" ∷ "a" ∷ "aA" ∷ [];
      products = [];
      generated = (negsuc 0 ∷ negsuc 2 ∷ pos 1 ∷ pos 2 ∷ []) ∷ (negsuc 2 ∷ pos 1 ∷ pos 2 ∷ []) ∷ (pos 3 ∷ []) ∷ [];
      expected =
          accepted
          (record {
            edges = 4;
            rank = 3;
            index = finite 2;
            normal = true;
            start_points = 13;
            start_edges = 16;
            merges = 11;
            closes = 1;
            basis = word "b" ∷ word "aa" ∷ word "abA" ∷ [];
            answers = some (pos 3 ∷ pos 2 ∷ []) ∷ none ∷ some [] ∷ [];
            reductions = [];
            file = 1 ∷ 2 ∷ 2 ∷ 2 ∷ 2 ∷ 1 ∷ 1 ∷ 1 ∷ 1 ∷ 2 ∷ 2 ∷ [];
            lines = bytes "points 2\nedges 4\nrank 3\nindex 2\nnormal yes\nstart 13 16\nfolds 11 1\nbasis b\nbasis aa\nbasis abA\naba yes 3 2\na no\naA yes\n";
          });
    }

-- the empty list: one point, rank 0, infinite index
abbrev pub empty_list : Case
empty_list =
    record {
      n = 2;
      text = bytes "";
      points = 1;
      table = absent ∷ absent ∷ absent ∷ absent ∷ [];
      queries = "" ∷ "a" ∷ [];
      products = [];
      generated = [];
      expected =
          accepted
          (record {
            edges = 0;
            rank = 0;
            index = infinite;
            normal = true;
            start_points = 1;
            start_edges = 0;
            merges = 0;
            closes = 0;
            basis = [];
            answers = some [] ∷ none ∷ [];
            reductions = [];
            file = 1 ∷ 2 ∷ 1 ∷ 0 ∷ 0 ∷ 0 ∷ 0 ∷ [];
            lines = bytes "points 1\nedges 0\nrank 0\nindex infinite\nnormal yes\nstart 1 0\nfolds 0 0\n yes\na no\n";
          });
    }

-- aA: as the empty list
abbrev pub cancelled_word : Case
cancelled_word =
    record {
      n = 2;
      text = bytes "aA\n";
      points = 1;
      table = absent ∷ absent ∷ absent ∷ absent ∷ [];
      queries = "" ∷ "a" ∷ [];
      products = [];
      generated = [];
      expected =
          accepted
          (record {
            edges = 0;
            rank = 0;
            index = infinite;
            normal = true;
            start_points = 1;
            start_edges = 0;
            merges = 0;
            closes = 0;
            basis = [];
            answers = some [] ∷ none ∷ [];
            reductions = [];
            file = 1 ∷ 2 ∷ 1 ∷ 0 ∷ 0 ∷ 0 ∷ 0 ∷ [];
            lines = bytes "points 1\nedges 0\nrank 0\nindex infinite\nnormal yes\nstart 1 0\nfolds 0 0\n yes\na no\n";
          });
    }

-- bb and bbb: basis b
abbrev pub two_and_three : Case
two_and_three =
    record {
      n = 2;
      text = bytes "bb\nbbb\n";
      points = 1;
      table = absent ∷ absent ∷ 0 ∷ 0 ∷ [];
      queries = "b" ∷ [];
      products = [];
      generated = (negsuc 0 ∷ pos 2 ∷ []) ∷ [];
      expected =
          accepted
          (record {
            edges = 1;
            rank = 1;
            index = infinite;
            normal = true;
            start_points = 4;
            start_edges = 5;
            merges = 3;
            closes = 1;
            basis = word "b" ∷ [];
            answers = some (pos 1 ∷ []) ∷ [];
            reductions = [];
            file = 1 ∷ 2 ∷ 1 ∷ 0 ∷ 0 ∷ 1 ∷ 1 ∷ [];
            lines = bytes "points 1\nedges 1\nrank 1\nindex infinite\nnormal yes\nstart 4 5\nfolds 3 1\nbasis b\nb yes 1\n";
          });
    }

-- ab twice: one merging and one closing fold
abbrev pub twice : Case
twice =
    record {
      n = 2;
      text = bytes "ab\nab\n";
      points = 2;
      table = 1 ∷ absent ∷ absent ∷ 1 ∷ absent ∷ 0 ∷ 0 ∷ absent ∷ [];
      queries = "ab" ∷ [];
      products = [];
      generated = (pos 1 ∷ []) ∷ [];
      expected =
          accepted
          (record {
            edges = 2;
            rank = 1;
            index = infinite;
            normal = false;
            start_points = 3;
            start_edges = 4;
            merges = 1;
            closes = 1;
            basis = word "ab" ∷ [];
            answers = some (pos 1 ∷ []) ∷ [];
            reductions = [];
            file = 1 ∷ 2 ∷ 2 ∷ 2 ∷ 0 ∷ 0 ∷ 2 ∷ 0 ∷ 1 ∷ 1 ∷ 0 ∷ [];
            lines = bytes "points 2\nedges 2\nrank 1\nindex infinite\nnormal no\nstart 3 4\nfolds 1 1\nbasis ab\nab yes 1\n";
          });
    }

-- ab: aBbb is a member
abbrev pub unreduced_query : Case
unreduced_query =
    record {
      n = 2;
      text = bytes "ab\n";
      points = 2;
      table = 1 ∷ absent ∷ absent ∷ 1 ∷ absent ∷ 0 ∷ 0 ∷ absent ∷ [];
      queries = "aBbb" ∷ [];
      products = [];
      generated = (pos 1 ∷ []) ∷ [];
      expected =
          accepted
          (record {
            edges = 2;
            rank = 1;
            index = infinite;
            normal = false;
            start_points = 2;
            start_edges = 2;
            merges = 0;
            closes = 0;
            basis = word "ab" ∷ [];
            answers = some (pos 1 ∷ []) ∷ [];
            reductions = [];
            file = 1 ∷ 2 ∷ 2 ∷ 2 ∷ 0 ∷ 0 ∷ 2 ∷ 0 ∷ 1 ∷ 1 ∷ 0 ∷ [];
            lines = bytes "points 2\nedges 2\nrank 1\nindex infinite\nnormal no\nstart 2 2\nfolds 0 0\nbasis ab\naBbb yes 1\n";
          });
    }

-- abA: the base has one cell and stays; b is not a member
abbrev pub hair_at_base : Case
hair_at_base =
    record {
      n = 2;
      text = bytes "abA\n";
      points = 2;
      table = 1 ∷ absent ∷ absent ∷ absent ∷ absent ∷ 0 ∷ 1 ∷ 1 ∷ [];
      queries = "abA" ∷ "b" ∷ [];
      products = [];
      generated = (pos 1 ∷ []) ∷ [];
      expected =
          accepted
          (record {
            edges = 2;
            rank = 1;
            index = infinite;
            normal = false;
            start_points = 3;
            start_edges = 3;
            merges = 1;
            closes = 0;
            basis = word "abA" ∷ [];
            answers = some (pos 1 ∷ []) ∷ none ∷ [];
            reductions = [];
            file = 1 ∷ 2 ∷ 2 ∷ 2 ∷ 0 ∷ 0 ∷ 0 ∷ 0 ∷ 1 ∷ 2 ∷ 2 ∷ [];
            lines = bytes "points 2\nedges 2\nrank 1\nindex infinite\nnormal no\nstart 3 3\nfolds 1 0\nbasis abA\nabA yes 1\nb no\n";
          });
    }

-- aaa over one generator: index 3
abbrev pub cube : Case
cube =
    record {
      n = 1;
      text = bytes "aaa\n";
      points = 3;
      table = 1 ∷ 2 ∷ 2 ∷ 0 ∷ 0 ∷ 1 ∷ [];
      queries = "AAA" ∷ "aa" ∷ [];
      products = [];
      generated = (pos 1 ∷ []) ∷ [];
      expected =
          accepted
          (record {
            edges = 3;
            rank = 1;
            index = finite 3;
            normal = true;
            start_points = 3;
            start_edges = 3;
            merges = 0;
            closes = 0;
            basis = word "aaa" ∷ [];
            answers = some (negsuc 0 ∷ []) ∷ none ∷ [];
            reductions = [];
            file = 1 ∷ 1 ∷ 3 ∷ 2 ∷ 3 ∷ 3 ∷ 1 ∷ 1 ∷ 2 ∷ [];
            lines = bytes "points 3\nedges 3\nrank 1\nindex 3\nnormal yes\nstart 3 3\nfolds 0 0\nbasis aaa\nAAA yes -1\naa no\n";
          });
    }

-- the same list: bAba, and the introduction's product
abbrev pub first_list : Case
first_list =
    record {
      n = 2;
      text = bytes "aaB\nbAba\nabA\naaaaaa\n";
      points = 2;
      table = 1 ∷ 1 ∷ 0 ∷ 0 ∷ 0 ∷ 0 ∷ 1 ∷ 1 ∷ [];
      queries = "bAba" ∷ [];
      products = (negsuc 2 ∷ pos 1 ∷ pos 2 ∷ []) ∷ (pos 1 ∷ pos 2 ∷ negsuc 2 ∷ []) ∷ [];
      generated = (negsuc 0 ∷ negsuc 2 ∷ pos 1 ∷ pos 2 ∷ []) ∷ (negsuc 2 ∷ pos 1 ∷ pos 2 ∷ []) ∷ (pos 3 ∷ []) ∷ [];
      expected =
          accepted
          (record {
            edges = 4;
            rank = 3;
            index = finite 2;
            normal = true;
            start_points = 13;
            start_edges = 16;
            merges = 11;
            closes = 1;
            basis = word "b" ∷ word "aa" ∷ word "abA" ∷ [];
            answers = some (pos 1 ∷ negsuc 1 ∷ pos 3 ∷ pos 2 ∷ []) ∷ [];
            reductions = word "aa" ∷ word "abaaBA" ∷ [];
            file = 1 ∷ 2 ∷ 2 ∷ 2 ∷ 2 ∷ 1 ∷ 1 ∷ 1 ∷ 1 ∷ 2 ∷ 2 ∷ [];
            lines = bytes "points 2\nedges 4\nrank 3\nindex 2\nnormal yes\nstart 13 16\nfolds 11 1\nbasis b\nbasis aa\nbasis abA\nbAba yes 1 -2 3 2\n";
          });
    }

abbrev pub examples : List Case
examples =
    printed_run
    ∷ empty_list
    ∷ cancelled_word
    ∷ two_and_three
    ∷ twice
    ∷ unreduced_query
    ∷ hair_at_base
    ∷ cube
    ∷ first_list
    ∷ turned_away 1 (bytes "b\n") 4 0
    ∷ turned_away 1 (bytes "a") 5 1
    ∷ turned_away 1 (bytes "b") 4 0
    ∷ turned_away 0 (bytes "1") 1 0
    ∷ turned_away 27 (bytes "1") 1 0
    ∷ turned_away 1 (bytes "a1b\n") 3 1
    ∷ turned_away 1 (bytes "ab1") 4 1
    ∷ []
