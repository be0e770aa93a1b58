pub mod LoadStoreOpsLemmas
