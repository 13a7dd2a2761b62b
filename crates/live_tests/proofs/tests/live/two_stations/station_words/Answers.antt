use Rattle.live_tests.proofs.tests.live.two_stations.station_words.Goals as goal

pub returns-clause-window : goal.returns-clause-window
returns-clause-window c = c.words-words.ensures.window
