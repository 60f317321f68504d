-- That bundles of two items and of many alike are bundles that calls accept.
mod Pairs
mod Alike
